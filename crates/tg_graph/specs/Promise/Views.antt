-- the labels that a graph lends
use Rattle.std.specs.Prelude.{◌≡◌, ℕ, List}
use Rattle.std.specs.BTreeMap as tree
use Rattle.std.specs.Map.{lookup}
use Rattle.std.specs.Option.{unwrap_or}
use Rattle.std.specs.Ordering.{nat_cmp, ordering_then}
use Rattle.std.specs.declared.cmp.Ordering.{Ordering}
use Rattle.tg_rights.specs.Promise.Letters.{Letters, none}
use Rattle.tg_graph.specs.Promise.Protection.{Protection, label}

-- pairs of vertices go by their first, then by their second
abbrev pub pair_cmp : ℕ × ℕ → ℕ × ℕ → Ordering
pair_cmp p q = ordering_then (nat_cmp p.0 q.0) (nat_cmp p.1 q.1)

-- the label of a pair in the entries, empty if it has none
abbrev pub label_at : List ((ℕ × ℕ) × Letters) → ℕ → ℕ → Letters
label_at es x y = unwrap_or (lookup (tree.is_at (pair_cmp (x, y))) es) none

-- the entries give each pair the label that it has in the graph
abbrev pub AreLabels : Protection → List ((ℕ × ℕ) × Letters) → Type 0
AreLabels G es = (x y : ℕ) → label_at es x y ≡ label G x y
