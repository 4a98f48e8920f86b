-- What public contracts rest on, of this crate or of one above it.
pub mod Command
pub mod Escapes
pub mod Letters
pub mod Name
pub mod Written
