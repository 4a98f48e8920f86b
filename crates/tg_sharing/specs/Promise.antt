-- What public contracts rest on, of this crate or of one above it.
pub mod Spans
pub mod Fetching
pub mod Answers
pub mod Laws
pub mod Prospects
pub mod Lookups
