-- What public contracts rest on, of this crate or of one above it.
pub mod Held
pub mod Stored
pub mod Readings
pub mod Views
pub mod Parts
pub mod Figures
pub mod Sessions
pub mod Runs
pub mod InGraph
pub mod Openings
