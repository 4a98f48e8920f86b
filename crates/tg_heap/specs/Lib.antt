pub mod Promise
pub mod Inner
pub use Rattle.tg_lists.specs.Promise.Membership
pub use Rattle.tg_rights.specs.Promise.Letters
pub use Rattle.tg_slots.specs.Promise.Table
pub use Rattle.tg_cells.specs.Promise.Lists
