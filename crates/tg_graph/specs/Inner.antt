-- What only proofs and private contracts need.
pub mod Deciding
pub mod Searching
pub mod Parts
pub mod Views
pub mod Codes
pub mod Restricting
