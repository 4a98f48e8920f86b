-- a search along the edges of a graph: what it has reached is reachable, and it continues from all of it
use Rattle.std.specs.Prelude.{◌≡◌, ℕ, ◌+◌, ◌*◌, Bool, true, cond, ◌||◌, ◌==◌, List, [], ◌∷◌, ◌++◌, length, ◌⊎◌}
use Rattle.std.specs.Ordering.{nat_cmp}
use Rattle.std.specs.BTreeSet as tree
use Rattle.std.specs.FinMap as map
use Rattle.tg_lists.specs.Promise.Membership.{Contains}
use Rattle.tg_graph.specs.declared.search.Search.{Search}
use Rattle.tg_graph.specs.Promise.Protection.{Protection, IsEdge, Reaches}

-- the search has reached the vertex
abbrev pub has_seen : Search → ℕ → Bool
has_seen s v = tree.contains nat_cmp s.seen v

-- a search that has reached only this vertex
pub record Starts (from : ℕ) (s : Search) : Type 0 where
  pub begin : s.from ≡ from
  pub seen : (q : ℕ) → has_seen s q ≡ (q == from)
  pub left : s.left.items ≡ from ∷ []

-- the vertex is reached, and, if it is new, is left to continue from
pub record Visits (s t : Search) (v : ℕ) : Type 0 where
  pub seen : (q : ℕ) → has_seen t q ≡ ((q == v) || has_seen s q)
  pub left : t.left.items ≡ cond (has_seen s v) s.left.items (s.left.items ++ v ∷ [])

-- what was reached is reachable, and each of its edges leads to what was reached, or is still to be followed
pub record IsSearching (G : Protection) (s : Search) : Type 0 where
  pub begun : has_seen s s.from ≡ true
  pub reached : (q : ℕ) → has_seen s q ≡ true → Reaches G s.from q
  pub listed : (q : ℕ) → Contains s.left.items q → has_seen s q ≡ true
  pub closed : (q z : ℕ) → has_seen s q ≡ true → IsEdge G q z → Contains s.left.items q ⊎ (has_seen s z ≡ true)

-- how many of the vertices fail the test
abbrev pub unseen : (ℕ → Bool) → List ℕ → ℕ
unseen seen [] = 0
unseen seen (v ∷ vs) = cond (seen v) 0 1 + unseen seen vs

-- a bound on the turns that are left: each takes one vertex from the list, and may add new ones
abbrev pub work_left : Protection → Search → ℕ
work_left G s = 2 * unseen (has_seen s) (map.keys G.vertices) + length s.left.items
