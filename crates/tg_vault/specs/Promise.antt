-- What public contracts rest on, of this crate or of one above it.
pub mod Recorded
pub mod History
pub mod World
pub mod Seen
pub mod StoreSteps
pub mod Contents
pub mod Agreement
pub mod Course
pub mod Cycles
pub mod Headline
pub mod Laws
pub mod Meanings
pub mod Rebase
pub mod Scenes
pub mod Room
