-- the steps by which a graph is opened
use Rattle.std.specs.FinSet as finset
use Rattle.tg_collect.specs.declared.machine.Progress.TheVariants as course
use Rattle.std.specs.Prelude.{◌≡◌, ℕ, zero, suc, ◌+◌, ◌*◌, List, [], ◌∷◌, ◌++◌, None, length, cond, nat_lt, replicate}
use Rattle.tg_rights.specs.declared.limits.TheConstants.{MAX_PRINCIPALS, SEATS}
use Rattle.tg_rights.specs.Promise.Letters.{none}
use Rattle.tg_graph.specs.Promise.Protection.{Protection, IsGraph, label}
use Rattle.tg_graph.specs.Promise.Opening.{subjects}
use Rattle.tg_slots.specs.Promise.Table.{indices}
use Rattle.tg_collect.specs.Inner.Stored.{stored}
use Rattle.tg_collect.specs.Promise.Readings.{vertices, triples, held}
use Rattle.tg_collect.specs.declared.machine.Root.{Root}
use Rattle.tg_collect.specs.declared.machine.Machine.{Machine}
use Rattle.tg_collect.specs.Inner.Machine.{lists_of, Whole}
use Rattle.tg_collect.specs.Promise.Openings.{IsOpening}

-- The steps by which a graph is opened.

-- the principals of the first slots
abbrev pub first_root : ℕ → Root
first_root i = record { serial = i + 1; slot = i }

abbrev pub first_roots : ℕ → List Root
first_roots zero = []
first_roots (suc count) = first_roots count ++ first_root count ∷ []

-- this many principals in the first slots, before any cycle; the other slots are free, in their order
pub record HasOpened (m : Machine) (count : ℕ) : Type 0 where
  pub whole : Whole m
  pub vertices : vertices (stored m) ≡ subjects count
  pub roots : lists_of m.roots ≡ record { targets = replicate SEATS None; principals = first_roots count; agents = replicate SEATS None }
  pub progress : m.progress ≡ course.Idle
  pub grey : m.heap.table.grey ≡ []
  pub others : ℕ
  pub free : m.heap.table.free ≡ indices count others
  pub all : count + others ≡ length m.heap.table.slots

-- the same without edges
pub record OpensFirst (m : Machine) (count : ℕ) : Type 0 where
  pub opened : HasOpened m count
  pub triples : triples (stored m) ≡ finset.empty

-- a machine keeps its size and its key
pub record KeepsSize (m n : Machine) : Type 0 where
  pub slots : length n.heap.table.slots ≡ length m.heap.table.slots
  pub cells : n.heap.cell_count ≡ m.heap.cell_count
  pub key : n.heap.key ≡ m.heap.key

-- pairs of serials in the order in which their edges are added
abbrev pub rank : ℕ → ℕ → ℕ
rank x y = MAX_PRINCIPALS * x + y

-- all of a graph's vertices are there, and those of its edges whose pairs come before this place
pub record OpensEdges (m : Machine) (G : Protection) (next : ℕ) : Type 0 where
  pub opening : IsOpening G (length m.heap.table.slots) m.heap.cell_count
  pub graph : IsGraph G
  pub opened : HasOpened m opening.count
  pub labels : (x y : ℕ) → label (held (stored m) 0) x y ≡ cond (nat_lt (rank x y) next) (label G x y) none

-- all of a graph's vertices and none of its edges
pub record OpensAll (m : Machine) (G : Protection) : Type 0 where
  pub opening : IsOpening G (length m.heap.table.slots) m.heap.cell_count
  pub first : OpensFirst m opening.count
