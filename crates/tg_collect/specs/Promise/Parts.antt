-- what is held, in lists
use Rattle.std.specs.Prelude.{◌≡◌, ◌<◌, ℕ, List, ◌↔◌, Some}
use Rattle.tg_rights.specs.Promise.Letters.{Letters}
use Rattle.tg_graph.specs.Promise.Opening.{ListedEdge}
use Rattle.tg_graph.specs.Promise.Parts.{Before, Listed, Rises}
use Rattle.tg_graph.specs.Promise.Protection.{IsEdge, label, vertex}
use Rattle.tg_marking.specs.Promise.Values.{Contains, Kind}
use Rattle.tg_collect.specs.Promise.Readings.{IsHeldIn, held}
use Rattle.tg_collect.specs.Promise.Stored.{Stored}

-- the lists have exactly what is held, its vertices by rising serial and its edges by rising pairs of ends
pub record ListsHeld (v : Stored) (all_vertices : List Listed) (all_edges : List ListedEdge) : Type 0 where
  pub vertices : (next x : ℕ) (k : Kind) (text : List ℕ) → Contains all_vertices (x, k, text) ↔ (vertex (held v next) x ≡ Some (record { kind = k; text = text }))
  pub edges : (next x y : ℕ) (l : Letters) → Contains all_edges (x, l, y) ↔ ((l ≡ label (held v next) x y) × IsEdge (held v next) x y)
  pub by_serial : Rises (λ a b. a.0 < b.0) all_vertices
  pub by_pairs : Rises Before all_edges

-- the serials of exactly what is held, which rise
pub record ListsSerials (v : Stored) (serials : List ℕ) : Type 0 where
  pub held : (x : ℕ) → Contains serials x ↔ IsHeldIn v x
  pub rising : Rises (λ a b. a < b) serials
