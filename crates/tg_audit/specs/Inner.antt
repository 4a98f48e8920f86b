-- What only proofs and private contracts need.
pub mod Stops
pub mod Replies
pub mod Following
