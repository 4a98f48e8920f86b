use Rattle.std.proofs.Common.{◌≡◌, ℕ, true, ◌⊎◌}
use Rattle.std.specs.List.{list_any}
use Rattle.std.specs.Ordering.{eq_by_cmp, nat_cmp}
use Rattle.tg_graph.specs.Promise.Protection.{IsVertex, has_retired}
use Rattle.tg_graph.proofs.graph.Graph.has_all_retired.Given as goal

-- who has retired is a vertex, or is still to be looked at
abbrev pub invariant-loop-serial : goal.invariant-loop-serial
invariant-loop-serial l = record {
  were : (v : ℕ) → list_any (eq_by_cmp nat_cmp v) l.serial-iterator ≡ true → has_retired l.self v ≡ true;
  seen : (v : ℕ) → has_retired l.self v ≡ true → IsVertex l.self v ⊎ (list_any (eq_by_cmp nat_cmp v) l.serial-iterator ≡ true);
}
