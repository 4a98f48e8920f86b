-- What public contracts rest on, of this crate or of one above it.
pub mod Terms
pub mod Rules
pub mod Repeating
pub mod Deciding
pub mod Fullness
pub mod EachCommand
pub mod Protection
pub mod Agreement
pub mod Derivations
pub mod Rewriting
pub mod Parts
pub mod Laws
pub mod Views
pub mod Opening
