-- What only proofs and private contracts need.
pub mod Links
pub mod Inside
