-- what the steps of a store do, in the words of the graph of what is held and of serials
use Rattle.std.specs.Prelude.{◌≡◌, ◌≢◌, ℕ, ◌+◌, ◌<◌, ◌≤◌, ◌⊎◌, ◌↔◌, Bool, true, Option, Some}
use Rattle.tg_graph.specs.Promise.Fullness.{vertex_count, edge_count}
use Rattle.tg_graph.specs.Promise.Protection.{IsPart, Live, Protection}
use Rattle.tg_collect.specs.declared.note.Phase.TheVariants.{Idle, Mark, Sweep}
use Rattle.tg_collect.specs.Promise.Openings.{Opened}
use Rattle.tg_collect.specs.Promise.Readings.{PhaseTurns, phase, held, mark_in, principals, pending, agents, slot_count, free_slots, parked_count, cycle_bound, IsHeldIn, IsParkedIn, IsGreyIn, IsBlackIn, IsEdgeIn, IsRootIn}
use Rattle.tg_collect.specs.Promise.Sessions.{Acted, Shaded}
use Rattle.tg_collect.specs.Promise.Stored.{Stored}
use Rattle.tg_collect.specs.Promise.Views.{IsStore, Collected, ChangesMarks, most_marks}

-- the step from marking to the sweep
abbrev pub StartsSweep : Stored → Stored → Type 0
StartsSweep v w = (phase v ≡ Mark) × (phase w ≡ Sweep)

-- x is held before that step: it is black, and stays; or it is not black, no root reaches it, and it is parked
abbrev pub StaysOrIsParked : Stored → Stored → ℕ → ℕ → Type 0
StaysOrIsParked v w next x = (IsBlackIn v x × IsHeldIn w x) ⊎ ((IsBlackIn v x → ⊥) × (Live (held v next) (IsRootIn v) x → ⊥) × IsParkedIn w x)

-- x was parked, and has no slot any longer
abbrev pub IsFreed : Stored → Stored → ℕ → Type 0
IsFreed v w x = IsParkedIn v x × (IsHeldIn w x ⊎ IsParkedIn w x → ⊥)

-- all that was parked still is; or a step of the sweep freed one vertex, and all others that were parked still are
abbrev pub FreesNone : Stored → Stored → Type 0
FreesNone v w = (x : ℕ) → IsParkedIn v x → IsParkedIn w x

abbrev pub FreesOne : Stored → Stored → Type 0
FreesOne v w = (phase v ≡ Sweep) × (x : ℕ) × IsFreed v w x × ((y : ℕ) → IsParkedIn v y → IsParkedIn w y ⊎ (y ≡ x))

-- what may turn grey: a root, or the target of an edge of a grey vertex
abbrev pub IsCalledIn : Stored → ℕ → Type 0
IsCalledIn v x = IsRootIn v x ⊎ ((y : ℕ) × IsGreyIn v y × IsEdgeIn v y x)

-- what a store has in each phase: nothing is parked but in the sweep, and nothing is black between cycles; the sums of
-- slots and of cells; and how many steps of a cycle may be left
pub record StoreInGraph (v : Stored) (next : ℕ) : Type 0 where
  pub parked : phase v ≢ Sweep → (x : ℕ) → IsParkedIn v x → ⊥
  pub black : phase v ≡ Idle → (x : ℕ) → IsBlackIn v x → ⊥
  pub leads : (x y : ℕ) → IsEdgeIn v x y → IsHeldIn v x × IsHeldIn v y × (x ≢ y)
  pub apart : (x : ℕ) → IsHeldIn v x → IsParkedIn v x → ⊥
  pub roots : (x : ℕ) → IsRootIn v x → IsHeldIn v x
  pub slots : free_slots v + vertex_count (held v next) + parked_count v ≡ slot_count v
  pub few_edges : v.free_cells + edge_count (held v next) ≤ v.cells
  pub all_cells : ((x : ℕ) → IsParkedIn v x → ⊥) → v.free_cells + edge_count (held v next) ≡ v.cells
  pub left : (1 ≤ v.left) × (v.left ≤ cycle_bound (slot_count v) v.cells)

-- a collector step, which freed so many slots, and perhaps ended a cycle
pub record CollectedInGraph (v w : Stored) (next freed_slots : ℕ) (ended : Bool) : Type 0 where
  pub phases : PhaseTurns (phase v) (phase w) ended
  pub roots : (principals w ≡ principals v) × (pending w ≡ pending v) × (agents w ≡ agents v)
  -- what is held changes only where the sweep starts: it finds nothing grey, keeps what is black, with all its edges, and
  -- parks the rest, which no root reaches
  pub no_grey : StartsSweep v w → (x : ℕ) → IsGreyIn v x → ⊥
  pub part : StartsSweep v w → IsPart (held v next) (held w next)
  pub held : (StartsSweep v w → ⊥) → held w next ≡ held v next
  pub parks : StartsSweep v w → (x : ℕ) → IsHeldIn v x → StaysOrIsParked v w next x
  -- nothing else is parked, and a step of the sweep frees at most one vertex
  pub parked : (x : ℕ) → IsParkedIn w x → IsParkedIn v x ⊎ (StartsSweep v w × IsHeldIn v x)
  pub freed : ((freed_slots ≡ 0) × FreesNone v w) ⊎ ((freed_slots ≡ 1) × FreesOne v w)
  -- what turns grey was called, what turns black was grey; and what is black stays so but in the sweep, where what is
  -- grey does
  pub grey : (x : ℕ) → IsGreyIn w x → IsGreyIn v x ⊎ IsCalledIn v x
  pub black : (x : ℕ) → IsBlackIn w x → IsBlackIn v x ⊎ IsGreyIn v x
  pub still_black : phase v ≢ Sweep → (x : ℕ) → IsBlackIn v x → IsBlackIn w x
  pub still_grey : phase v ≡ Sweep → (x : ℕ) → IsGreyIn v x ↔ IsGreyIn w x
  -- counts
  pub free_slots : free_slots w ≡ free_slots v + freed_slots
  pub free_cells : (v.free_cells ≤ w.free_cells) × (w.free_cells ≤ v.free_cells + 1)
  pub marks : ChangesMarks (mark_in v) (mark_in w) (most_marks v.roots (phase v))
  pub left : (ended ≡ true) ⊎ (w.left < v.left)

-- a session step, by its new serial, if any: what is parked stays, and the phase; only a root turns grey, and only what
-- is new is black
pub record ActedInGraph (v w : Stored) (new : Option ℕ) : Type 0 where
  pub phase : phase w ≡ phase v
  pub parked : (x : ℕ) → IsParkedIn w x ↔ IsParkedIn v x
  pub grey : (x : ℕ) → IsGreyIn w x → IsGreyIn v x ⊎ IsRootIn v x
  pub still_grey : (x : ℕ) → IsGreyIn v x → IsGreyIn w x
  pub black : (x : ℕ) → IsBlackIn w x → IsBlackIn v x ⊎ (new ≡ Some x)
  pub still_black : (x : ℕ) → IsBlackIn v x → IsBlackIn w x
  pub left : w.left ≤ v.left

-- a store that a graph has opened, before its first cycle: it holds the graph, and nothing is parked, grey or black
pub record OpenedInGraph (v : Stored) (G : Protection) : Type 0 where
  pub phase : phase v ≡ Idle
  pub held : record (held v G.next) { names = G.names; retired = G.retired } ≡ G
  pub parked : (x : ℕ) → IsParkedIn v x → ⊥
  pub grey : (x : ℕ) → IsGreyIn v x → ⊥
  pub black : (x : ℕ) → IsBlackIn v x → ⊥

-- the laws: of each store, of its opening, of its collector steps, of its session steps, and of a shade, which leaves its
-- target grey or black
abbrev pub StoresAreInGraph : Type 0
StoresAreInGraph = (v : Stored) (next : ℕ) → IsStore v → StoreInGraph v next

abbrev pub OpensInGraph : Type 0
OpensInGraph = (v : Stored) (G : Protection) (all_slots all_cells : ℕ) → Opened v G all_slots all_cells → OpenedInGraph v G

abbrev pub CollectsInGraph : Type 0
CollectsInGraph = (v w : Stored) (next freed_slots : ℕ) (ended : Bool) → IsStore v → IsStore w → Collected v w freed_slots ended → CollectedInGraph v w next freed_slots ended

abbrev pub ActsInGraph : Type 0
ActsInGraph = (v w : Stored) (new target : Option ℕ) → IsStore v → IsStore w → Acted v w new target → ActedInGraph v w new

abbrev pub ShadesInGraph : Type 0
ShadesInGraph = (v w : Stored) (seat x : ℕ) → IsStore v → Shaded v w seat (Some x) → IsGreyIn w x ⊎ IsBlackIn w x
