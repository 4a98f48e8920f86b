pub mod SerialsLemmas
pub mod PlaceLemmas
pub mod EdgeLemmas
pub mod FoundLemmas
pub mod SeatLemmas
pub mod RetiredLemmas
pub mod CarriedOutLemmas
pub mod HistoryLemmas
pub mod DecidedLemmas
pub mod CountLemmas
pub mod EntryLemmas
pub mod CollectLemmas
mod FaultLemmas
mod NamedLemmas
pub mod FitsLemmas
pub mod CourseLemmas
pub mod FreshLemmas
pub mod AddedLemmas
pub mod CycleLemmas
pub mod SweptLemmas
pub mod HeadlineLemmas
pub mod ReopeningLemmas
pub mod RebaseLemmas
pub mod MeaningsLemmas
