-- what each store has, and what a collector step does
use Rattle.std.specs.Prelude.{◌≡◌, ◌≢◌, ℕ, ◌+◌, ◌<◌, ◌≤◌, List, length, map, Some, ◌⊎◌, Bool, true, false}
use Rattle.std.specs.List.{filter}
use Rattle.std.specs.Option.{is_some}
use Rattle.std.specs.FinSet as finset
use Rattle.tg_rights.specs.declared.limits.TheConstants.{MAX_PRINCIPALS, SEATS}
use Rattle.tg_rights.specs.Promise.Letters.{is_none}
use Rattle.tg_slots.specs.Promise.Table as table
use Rattle.tg_graph.specs.Promise.Protection.{Triple}
use Rattle.tg_graph.specs.Promise.Fullness.{vertex_count, edge_count}
use Rattle.tg_marking.specs.Promise.Values as stage
use Rattle.tg_marking.specs.Promise.Values.{Contains, Distinct, Has, Grey, Black, Edge, spot_edges}
use Rattle.tg_marking.specs.Promise.Invariant.{Closed}
use Rattle.tg_marking.specs.Promise.Collected as marking
use Rattle.tg_collect.specs.declared.note.Phase.{Phase}
use Rattle.tg_collect.specs.declared.note.Phase.TheVariants.{Idle, Mark, Sweep}
use Rattle.tg_collect.specs.declared.machine.Root.{Root}
use Rattle.tg_collect.specs.Promise.Stored.{RootLists, IsListed, Stored}
use Rattle.tg_collect.specs.Promise.Readings.{phase, shown_body, spot_at, mark_in, serial_in_slot, kept, place, IsRootAt, slot_count, free_slots, parked_count, held, triples, principals, pending, agents, IsHeldIn, IsParkedIn, IsRootIn, cycle_bound}

-- what each store has
pub record IsStore (v : Stored) : Type 0 where
  -- by slots: roots are held, under their serials; edges of what is held lead to what is held, under its serial, in
  -- another slot; a serial is in one slot; no slot has two edges to a serial, or an edge without rights
  pub closed : Closed (kept v) (IsRootAt v)
  pub named : (r : Root) → IsListed v.roots r → place v r.slot ≡ Some r.serial
  pub once : (i j x : ℕ) → serial_in_slot v i ≡ Some x → serial_in_slot v j ≡ Some x → i ≡ j
  pub serials : (i : ℕ) → Distinct (map (λ (e : Edge). e.serial) (spot_edges (spot_at v i)))
  pub labelled : (i : ℕ) (e : Edge) → Contains (spot_edges (spot_at v i)) e → is_none e.rights ≡ false
  -- between cycles nothing is black; in the sweep no slot that it has passed is black, and none that it has not is grey
  pub idle : v.stage ≡ stage.Idle → (i : ℕ) → mark_in v i ≢ Has Black
  pub swept : (k : ℕ) → v.stage ≡ stage.Sweep k → ((i : ℕ) → i < k → mark_in v i ≢ Has Black) × ((i : ℕ) → k ≤ i → mark_in v i ≢ Has Grey)
  -- by serials
  pub from_held : (t : Triple) → finset.contains (triples v) t ≡ true → IsHeldIn v t.from
  pub to_held : (t : Triple) → finset.contains (triples v) t ≡ true → IsHeldIn v t.to
  pub distinct : (t : Triple) → finset.contains (triples v) t ≡ true → t.from ≢ t.to
  pub roots_held : (x : ℕ) → IsRootIn v x → IsHeldIn v x
  pub apart : (x : ℕ) → IsHeldIn v x → IsParkedIn v x → ⊥
  pub placed : (i x : ℕ) → place v i ≡ Some x → IsHeldIn v x
  pub has_place : (x : ℕ) → IsHeldIn v x → (i : ℕ) × (place v i ≡ Some x)
  -- counts
  pub seats : length (pending v) ≡ SEATS
  pub few : length (principals v) ≤ MAX_PRINCIPALS
  pub agents : length (agents v) ≡ SEATS
  pub slots : (next : ℕ) → free_slots v + vertex_count (held v next) + parked_count v ≡ slot_count v
  pub few_edges : (next : ℕ) → v.free_cells + edge_count (held v next) ≤ v.cells
  pub all_cells : ((x : ℕ) → IsParkedIn v x → ⊥) → (next : ℕ) → v.free_cells + edge_count (held v next) ≡ v.cells
  pub some_left : 1 ≤ v.left
  pub most_left : v.left ≤ cycle_bound (slot_count v) v.cells

-- how many marks a step may change, by the roots and the phase before it: a start shades principals and agents
abbrev pub most_marks : RootLists → Phase → ℕ
most_marks rs Idle = length rs.principals + length (filter (λ o. is_some o) rs.agents)
most_marks rs Mark = 1
most_marks rs Sweep = 1

-- outside these slots the marks stay
pub record ChangesMarks (before after : ℕ → table.Mark) (most : ℕ) : Type 0 where
  pub slots : List ℕ
  pub count : length slots ≤ most
  pub others : (i : ℕ) → (Contains slots i → ⊥) → after i ≡ before i

-- one collector step, the slots that it freed, and whether it ended a cycle. `step` says which phase follows; what the
-- step does to each slot, and why; that only the step into the sweep changes what is held; and that this step parks
-- what is not black, finds nothing grey, and leaves what is black in its slot, with its edges.
pub record Collected (v w : Stored) (freed_slots : ℕ) (ended : Bool) : Type 0 where
  pub step : marking.BodyCollected (shown_body v) v.stage (shown_body w) w.stage ended
  pub held : marking.Stays v.stage w.stage → (next : ℕ) → held w next ≡ held v next
  pub roots : w.roots ≡ v.roots
  pub cells : w.cells ≡ v.cells
  pub key : w.key ≡ v.key
  pub freed : (phase v ≡ Sweep) ⊎ (freed_slots ≡ 0)
  pub few : freed_slots ≤ 1
  pub free_slots : free_slots w ≡ free_slots v + freed_slots
  pub free_cells : (v.free_cells ≤ w.free_cells) × (w.free_cells ≤ v.free_cells + 1)
  pub marks : ChangesMarks (mark_in v) (mark_in w) (most_marks v.roots (phase v))
  pub left : (ended ≡ true) ⊎ (w.left < v.left)

-- a step that begins no cycle changes the mark of one slot at most
abbrev pub OneMarkAStep : Type 0
OneMarkAStep = (v w : Stored) (freed_slots : ℕ) (ended : Bool) → Collected v w freed_slots ended → phase v ≢ Idle
    → (i j : ℕ) → mark_in w i ≢ mark_in v i → mark_in w j ≢ mark_in v j → i ≡ j
