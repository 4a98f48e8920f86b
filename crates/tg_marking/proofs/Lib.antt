pub mod SpotLemmas
pub mod KeepLemmas
pub mod SessionLemmas
pub mod MutatorLemmas
pub mod LeftLemmas
pub mod RunLemmas
