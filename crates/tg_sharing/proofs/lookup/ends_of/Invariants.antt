use Rattle.std.proofs.Common.{◌≡◌, ℕ, true, ◌⊎◌}
use Rattle.std.specs.List.{list_any}
use Rattle.std.specs.Map.{keys_of}
use Rattle.std.specs.Ordering.{eq_by_cmp, nat_cmp}
use Rattle.tg_lists.specs.Promise.Membership.{Contains}
use Rattle.tg_rights.specs.Promise.Letters.{Letters}
use Rattle.tg_graph.specs.Promise.Protection.{IsEdge, IsVertex, label}
use Rattle.tg_sharing.proofs.lookup.ends_of.Given as goal

-- what is in the set is a vertex, and each edge is still to come or has its ends there
abbrev pub invariant-loop-pair : goal.invariant-loop-pair
invariant-loop-pair l = record {
  labels : (e : (ℕ × ℕ) × Letters) → Contains l.pair-iterator e → e.1 ≡ label l.graph e.0.0 e.0.1;
  there : (v : ℕ) → list_any (eq_by_cmp nat_cmp v) l.ends.keys ≡ true → IsVertex l.graph v;
  whole : (x y : ℕ) → IsEdge l.graph x y → Contains (keys_of l.pair-iterator) (x, y) ⊎ ((list_any (eq_by_cmp nat_cmp x) l.ends.keys ≡ true) × (list_any (eq_by_cmp nat_cmp y) l.ends.keys ≡ true));
}
