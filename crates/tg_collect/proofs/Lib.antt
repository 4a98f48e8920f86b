-- Lemma files that other crates may use.
pub mod OpeningLemmas
pub mod RunLemmas
pub mod SeatLemmas
pub mod ShownLemmas
pub mod StoreLemmas
-- Lemma files of this crate's own proofs.
mod CallLemmas
mod Common
mod CycleLemmas
mod EdgeLemmas
mod EdgesLemmas
mod FiguresLemmas
mod FoundLemmas
mod HeldLemmas
mod InGraphLemmas
mod LineLemmas
mod OpeningEdges
mod MarksLemmas
mod PartsLemmas
mod PrincipalLemmas
mod RootLemmas
mod SlotLemmas
mod TextLemmas
mod VertexLemmas
