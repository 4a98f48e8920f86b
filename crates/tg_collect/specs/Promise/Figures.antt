-- what the slots show, in lists: each vertex that has a slot, with its colour, and the edges between them
use Rattle.std.specs.Prelude.{◌≡◌, ◌<◌, ℕ, List, ◌↔◌, Option, Some, None}
use Rattle.tg_rights.specs.Promise.Letters.{Letters}
use Rattle.tg_graph.specs.Promise.Opening as graph
use Rattle.tg_graph.specs.Promise.Parts.{Before, Rises}
use Rattle.tg_marking.specs.Promise.Values.{Contains, Edge, Spot, Stage, spot_edges, keeps}
use Rattle.tg_collect.specs.declared.figures.Figure.{Figure}
use Rattle.tg_collect.specs.Promise.Readings.{serial_in_slot, spot_at}
use Rattle.tg_collect.specs.Promise.Stored.{Stored}

-- what a slot shows: the serial of its vertex, what it is, its colour, and whether it is held, or waits to be swept
abbrev pub figure_in : Stage → ℕ → Option Spot → Option Figure
figure_in g i None = None
figure_in g i (Some s) = Some (record { serial = s.serial; kind = s.kind; colour = s.colour; is_held = keeps g i s.colour })

abbrev pub figure : Stored → ℕ → Option Figure
figure v i = figure_in v.stage i (spot_at v i)

-- some slot's vertex x has an edge with these rights to y, and the slot that it leads to has y still (that of a vertex
-- that waits to be swept may lead to a slot that is free again, or has another vertex)
pub record IsArrow (v : Stored) (x : ℕ) (l : Letters) (y : ℕ) : Type 0 where
  pub slot : ℕ
  pub edge : Edge
  pub from : serial_in_slot v slot ≡ Some x
  pub owned : Contains (spot_edges (spot_at v slot)) edge
  pub label : edge.rights ≡ l
  pub to : edge.serial ≡ y
  pub there : serial_in_slot v edge.target ≡ Some y

-- the lists have exactly what the slots show, the vertices by rising serial and the edges by rising pairs of ends
pub record Shows (v : Stored) (figures : List Figure) (arrows : List graph.ListedEdge) : Type 0 where
  pub vertices : (f : Figure) → Contains figures f ↔ ((i : ℕ) × (figure v i ≡ Some f))
  pub edges : (x y : ℕ) (l : Letters) → Contains arrows (x, l, y) ↔ IsArrow v x l y
  pub by_serial : Rises (λ (a b : Figure). a.serial < b.serial) figures
  pub by_pairs : Rises Before arrows
