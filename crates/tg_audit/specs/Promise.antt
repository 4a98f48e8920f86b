-- What public contracts rest on, of this crate or of one above it.
pub mod Verdicts
pub mod Replies
pub mod Settling
pub mod Laws
pub mod Derived
