-- What only proofs and private contracts need.
pub mod Paths
pub mod Marking
pub mod Growing
pub mod Fetching
pub mod Prospects
pub mod Lookups
