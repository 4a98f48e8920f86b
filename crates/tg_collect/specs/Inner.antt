-- What only proofs and private contracts need.
pub mod Cycles
pub mod Machine
pub mod PackedProgress
pub mod Stored
pub mod Parts
pub mod Figures
pub mod Openings
