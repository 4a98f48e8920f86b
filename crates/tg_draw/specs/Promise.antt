-- What public contracts rest on, of this crate or of one above it.
pub mod Words
pub mod Label
pub mod Picture
pub mod Laws
