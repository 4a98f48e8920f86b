pub mod KnownBytesLemmas
pub mod InputLinesLemmas
pub mod TakingLemmas
pub mod SendsLemmas
pub mod AnsweringLemmas
pub mod ToldLemmas
pub mod TalkLemmas
pub mod OpeningLemmas
mod MeaningsLemmas
mod EndsLemmas
