-- What public contracts rest on, of this crate or of one above it.
pub mod Fields
pub mod Ops
pub mod Configs
pub mod Reading
pub mod Lines
pub mod Laws
pub mod WorkedAnswers
pub mod Faults
pub mod Replies
pub mod Answers
pub mod StepLines
pub mod Unshared
pub mod Memory
