-- What public contracts rest on, of this crate or of one above it.
pub mod Reached
pub mod Sessions
pub mod Closing
pub mod Meanings
