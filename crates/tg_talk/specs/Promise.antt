-- What public contracts rest on, of this crate or of one above it.
pub mod Devices
pub mod InputLines
pub mod Finding
pub mod Taking
pub mod Refusals
pub mod Endings
pub mod Answering
pub mod Talks
pub mod Opening
pub mod Meanings
