-- Lemma files of this crate's own proofs.
mod AboveLemmas
mod CountingLemmas
mod FollowingLemmas
mod TableLemmas
mod VerdictLemmas
mod OnePlaceLemmas
mod OneVerdictLemmas
mod SettledLemmas
mod ReplayLemmas
mod DerivedLemmas
