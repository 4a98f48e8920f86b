-- Lemma files of this crate's own proofs.
mod ReachedLemmas
mod ClosingLemmas
mod AnsweredLemmas
mod EnteredLemmas
mod MeaningsLemmas
