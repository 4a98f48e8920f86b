-- What only proofs and private contracts need.
pub mod Recorded
pub mod Seen
pub mod Acting
pub mod Contents
pub mod Fits
pub mod CarriedOut
pub mod Rebase
