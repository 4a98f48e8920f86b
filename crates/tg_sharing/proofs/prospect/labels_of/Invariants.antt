use Rattle.std.proofs.Common.{◌≡◌, ℕ, ◌⊎◌}
use Rattle.std.specs.Map.{keys_of}
use Rattle.tg_lists.specs.Promise.Membership.{Contains}
use Rattle.tg_rights.specs.Promise.Letters.{Letters}
use Rattle.tg_graph.specs.Promise.Protection.{IsEdge, IsVertex, label}
use Rattle.tg_sharing.proofs.prospect.labels_of.Given as goal

-- what is listed is an edge, and each edge is still to come or listed
abbrev pub invariant-loop-ends : goal.invariant-loop-ends
invariant-loop-ends l = record {
  labels : (e : (ℕ × ℕ) × Letters) → Contains l.ends-iterator e → e.1 ≡ label l.after e.0.0 e.0.1;
  sound : (y : ℕ) (α : Letters) → Contains l.found.items (y, α) → IsVertex l.graph y × IsEdge l.after l.from y × (α ≡ label l.after l.from y);
  whole : (y : ℕ) → IsVertex l.graph y → IsEdge l.after l.from y → Contains (keys_of l.ends-iterator) (l.from, y) ⊎ Contains l.found.items (y, label l.after l.from y);
}
