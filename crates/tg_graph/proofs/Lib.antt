-- Lemma files that other crates may use, each named after the definition or law that it serves.
pub mod CommandsKeepGraphsLemmas
pub mod DecidingLemmas
pub mod EdgesAreCountedLemmas
pub mod EdgesAreListedLemmas
pub mod ExactlyOneOutcomeLemmas
pub mod FullnessLemmas
pub mod LabelLemmas
pub mod LawsLemmas
pub mod ListedLemmas
pub mod OpeningLemmas
pub mod OpeningsFitLemmas
pub mod OutcomesAgreeLemmas
pub mod PartsLemmas
pub mod PartsStayLemmas
pub mod ProtectionLemmas
pub mod RepliesAgreeLemmas
pub mod RestrictingLemmas
pub mod RestrictionLemmas
pub mod RewritingLemmas
pub mod RollLemmas
pub mod SoundTerms
pub mod TriplesLemmas
pub mod VertexLemmas
pub mod ViewsLemmas
-- Lemma files of this crate's own proofs.
mod AllowedIsMetLemmas
mod AnswersAgreeLemmas
mod AssumesAndLeavesLemmas
mod ComeAndGoLemmas
mod EachCommandLemmas
mod EachDoesLemmas
mod EdgesOfLemmas
mod RepeatingLemmas
mod SameEdgesLemmas
mod SameReplyLemmas
mod SearchingLemmas
