pub mod TableLemmas
pub mod ShelfLemmas
pub mod FreshLemmas
pub mod ChainLemmas
pub mod InsideLemmas
pub mod StepLemmas
