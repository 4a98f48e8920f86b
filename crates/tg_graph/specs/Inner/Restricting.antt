-- which of the keys of a map are kept, in one walk through the map and through serials that rise
use Rattle.std.specs.Prelude.{ℕ, Bool, false, List, [], ◌∷◌, ◌==◌, if◌then◌else◌, nat_le}
use Rattle.std.specs.BTreeMap as tree
use Rattle.std.specs.List.{list_any}
use Rattle.std.specs.Map.{lookup}
use Rattle.std.specs.Option.{is_some}
use Rattle.std.specs.Ordering.{nat_cmp}
use Rattle.tg_graph.specs.declared.vertex.Vertex.{Vertex}

-- the serial is one of these
abbrev pub is_among : List ℕ → ℕ → Bool
is_among kept x = list_any (λ k. k == x) kept

-- without the first ones, those below x
abbrev pub without_below : List ℕ → ℕ → List ℕ
without_below [] x = []
without_below (k ∷ ks) x = if nat_le x k then k ∷ ks else without_below ks x

abbrev pub begins_with : List ℕ → ℕ → Bool
begins_with [] x = false
begins_with (k ∷ ks) x = k == x

-- the serial is a key of these entries
abbrev pub is_vertex_in : List (ℕ × Vertex) → ℕ → Bool
is_vertex_in entries x = is_some (lookup (tree.is_at (nat_cmp x)) entries)
