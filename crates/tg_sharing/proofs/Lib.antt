pub mod CarryingLemmas
pub mod LabelsLemmas
pub mod GrowthLemmas
pub mod WithheldLemmas
pub mod MarkingLemmas
pub mod ProspectLemmas
pub mod GrowingLemmas
pub mod SharingLemmas
pub mod LookupLemmas
mod MeaningsLemmas
