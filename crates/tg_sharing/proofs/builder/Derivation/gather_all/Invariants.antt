use Rattle.std.proofs.Common.{◌≡◌, ℕ, ◌⊎◌}
use Rattle.std.specs.Map.{keys_of}
use Rattle.tg_lists.specs.Promise.Membership.{Contains}
use Rattle.tg_rights.specs.Promise.Letters.{Letters}
use Rattle.tg_graph.specs.Promise.Protection.{IsEdge, label}
use Rattle.tg_sharing.specs.Inner.Growing.{Continues}
use Rattle.tg_sharing.specs.Inner.Prospects.{IsGathered}
use Rattle.tg_sharing.proofs.builder.Derivation.gather_all.Given as goal

-- the rights of each edge are still to be gathered, or are there
abbrev pub invariant-loop-ends : goal.invariant-loop-ends
invariant-loop-ends l = record {
  continues : Continues l.fn.self l.self;
  labels : (e : (ℕ × ℕ) × Letters) → Contains l.ends-iterator e → e.1 ≡ label l.graph e.0.0 e.0.1;
  gathered : (u y : ℕ) → IsEdge l.graph u y → Contains (keys_of l.ends-iterator) (u, y) ⊎ IsGathered l.graph l.self.graph l.marks u y;
}
