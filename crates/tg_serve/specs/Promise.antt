-- What public contracts rest on, of this crate or of one above it.
pub mod Serving
pub mod Meanings
