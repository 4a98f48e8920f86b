-- What only proofs and private contracts need.
pub mod InputLines
pub mod Finding
pub mod Answering
pub mod Talking
