pub mod ColumnsLemmas
pub mod MembershipLemmas
pub mod NestedLemmas
