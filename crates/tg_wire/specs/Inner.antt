-- What only proofs and private contracts need.
pub mod Keys
pub mod LastLine
pub mod Known
pub mod Reading
pub mod Members
pub mod Flat
pub mod Lines
pub mod Runs
pub mod Told
pub mod Unshared
