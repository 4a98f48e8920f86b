pub mod Promise
pub mod Inner
pub use Rattle.tg_lists.specs.Promise.Membership
