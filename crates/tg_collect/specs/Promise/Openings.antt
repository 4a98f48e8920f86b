-- the store that a graph opens
use Rattle.std.specs.Prelude.{◌≡◌, ℕ, zero, suc, ◌+◌, ◌<◌, ◌≤◌, List, [], ◌∷◌, ◌++◌, Some, None, ◌⊎◌, slice_index_or}
use Rattle.tg_rights.specs.declared.limits.TheConstants.{MAX_CELLS, MAX_PRINCIPALS, MAX_SLOTS}
use Rattle.tg_graph.specs.Promise.Protection.{Protection}
use Rattle.tg_graph.specs.declared.config.Config.{Config}
use Rattle.tg_graph.specs.Promise.Opening.{subjects, first_fault, opening}
use Rattle.tg_graph.specs.Promise.Fullness.{edge_count}
use Rattle.tg_slots.specs.Promise.Table.{Free, Has}
use Rattle.tg_marking.specs.Promise.Values.{White, Idle}
use Rattle.tg_collect.specs.Promise.Stored.{Stored}
use Rattle.tg_collect.specs.Promise.Readings.{mark_in, slot_count, free_slots, vertices, triples, principals, pending_of, agents, place, IsParkedIn, IsGreyIn, IsBlackIn}

-- the serials from 1 to the count
abbrev pub first_serials : ℕ → List ℕ
first_serials zero = []
first_serials (suc count) = first_serials count ++ suc count ∷ []

-- a graph that a store can open: at most 64 subjects with consecutive serials from 1 on, which fit with their edges
pub record IsOpening (G : Protection) (all_slots all_cells : ℕ) : Type 0 where
  pub count : ℕ
  pub few : count ≤ MAX_PRINCIPALS
  pub vertices : G.vertices ≡ subjects count
  pub slots : count ≤ all_slots
  pub cells : edge_count G ≤ all_cells

-- this many principals in the first slots, in the order of their serials, all white, with nothing parked, no target and
-- no agent
pub record Opens (v : Stored) (count all_slots all_cells : ℕ) : Type 0 where
  pub vertices : vertices v ≡ subjects count
  pub principals : principals v ≡ first_serials count
  pub places : (k : ℕ) → k < count → place v k ≡ Some (k + 1)
  pub stage : v.stage ≡ Idle
  pub idle : (seat : ℕ) → pending_of v seat ≡ None
  pub agents : (seat : ℕ) → slice_index_or (agents v) seat None ≡ None
  pub marks : (i : ℕ) → (mark_in v i ≡ Free) ⊎ (mark_in v i ≡ Has White)
  pub slots : slot_count v ≡ all_slots
  pub free : free_slots v + count ≡ all_slots
  pub cells : v.cells ≡ all_cells

-- the store that a graph opens, with all its vertices and edges
pub record Opened (v : Stored) (G : Protection) (all_slots all_cells : ℕ) : Type 0 where
  pub vertices : vertices v ≡ G.vertices
  pub triples : triples v ≡ G.triples
  pub parked : (x : ℕ) → IsParkedIn v x → ⊥
  pub grey : (x : ℕ) → IsGreyIn v x → ⊥
  pub black : (x : ℕ) → IsBlackIn v x → ⊥
  pub count : ℕ
  pub opens : Opens v count all_slots all_cells

-- a graph that a store with this many slots and cells can open, and these in their range
pub record Fitted (G : Protection) (all_slots all_cells : ℕ) : Type 0 where
  pub low_slots : 1 ≤ all_slots
  pub high_slots : all_slots ≤ MAX_SLOTS
  pub low_cells : 1 ≤ all_cells
  pub high_cells : all_cells ≤ MAX_CELLS
  pub opening : IsOpening G all_slots all_cells

-- a configuration without a fault opens a graph that a store can open, with the configuration's slots and cells
abbrev pub OpeningsCanBeStored : Type 0
OpeningsCanBeStored = (c : Config) → first_fault c ≡ None → Fitted (opening c) c.slots c.cells
