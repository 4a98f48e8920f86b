-- What public contracts rest on, of this crate or of one above it.
pub mod Columns
pub mod ColumnsLent
pub mod Membership
