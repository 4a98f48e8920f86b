-- What public contracts rest on, of this crate or of one above it.
pub mod Modes
pub mod Ready
pub mod Runs
pub mod Drawings
pub mod Audits
pub mod Named
pub mod Lookups
pub mod Sharing
pub mod Meanings
