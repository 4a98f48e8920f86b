-- What only proofs and private contracts need.
pub mod Linked
pub mod Shelf
pub mod Chain
pub mod Inside
