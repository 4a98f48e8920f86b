-- What only proofs and private contracts need.
pub mod Modes
pub mod Running
pub mod Drawing
pub mod Asked
pub mod Outputs
pub mod Auditing
pub mod Processed
