-- What only proofs and private contracts need.
pub mod Chain
pub mod Pool
pub mod Index
pub mod Inside
