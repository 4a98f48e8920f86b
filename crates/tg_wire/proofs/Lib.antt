pub mod Literals
pub mod ReadingLemmas
pub mod KeysLemmas
pub mod OpsLemmas
pub mod KnownLemmas
pub mod LexemesLemmas
pub mod QuotedLemmas
pub mod StopsLemmas
pub mod NumbersLemmas
pub mod FlatLemmas
pub mod ObjectLineLemmas
mod AsciiLemmas
mod BeforeLemmas
mod DeniedLemmas
mod EdgesLemmas
pub mod FieldsLemmas
pub mod LineTextLemmas
pub mod MembersLemmas
pub mod RepliesLemmas
mod WorkedAnswersLemmas
pub mod WorkedLinesLemmas
pub mod LawsLemmas
mod StepLinesLemmas
