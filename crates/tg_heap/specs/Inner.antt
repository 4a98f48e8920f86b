-- What only proofs and private contracts need.
pub mod Graph
pub mod Marking
