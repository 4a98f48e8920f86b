-- What public contracts rest on, of this crate or of one above it.
pub mod Values
pub mod Steps
pub mod Invariant
pub mod Collected
pub mod Runs
pub mod Left
