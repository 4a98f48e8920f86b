-- What only proofs and private contracts need.
pub mod Beginning
pub mod Keeping
pub mod Serving
