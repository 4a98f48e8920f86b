-- what is read off the value of a store
use Rattle.std.specs.Prelude.{◌≡◌, ℕ, suc, List, [], ◌∷◌, length, map, Option, Some, None, ◌⊎◌, Bool, true, false, slice_index_or}
use Rattle.std.specs.Option.{unwrap_or}
use Rattle.std.specs.Ordering.{nat_cmp}
use Rattle.std.specs.FinMap as finmap
use Rattle.std.specs.FinSet as finset
use Rattle.tg_rights.specs.Promise.Letters.{Right}
use Rattle.tg_graph.specs.declared.vertex.Vertex.{Vertex}
use Rattle.tg_graph.specs.Promise.Protection.{Triples, Protection}
use Rattle.tg_slots.specs.Promise.Table as table
use Rattle.tg_marking.specs.Promise.Values as values
use Rattle.tg_marking.specs.Promise.Values.{Contains, Has, Colour, Grey, Black, Spot, Stage, Body, Kept, HasRoot, keeps, spot_mark, spot_serial, seen, total, free_one, parked_one}
use Rattle.tg_marking.specs.Promise.Left.{bound}
use Rattle.tg_collect.specs.Promise.Held as graph
use Rattle.tg_collect.specs.declared.note.Phase.{Phase}
use Rattle.tg_collect.specs.declared.note.Phase.TheVariants.{Idle, Mark, Sweep}
use Rattle.tg_collect.specs.declared.machine.Root.{Root}
use Rattle.tg_collect.specs.Promise.Stored.{bare, Stored}

-- the phase alone
abbrev pub phase_in : Stage → Phase
phase_in values.Idle = Idle
phase_in values.Mark = Mark
phase_in (values.Sweep k) = Sweep

abbrev pub phase : Stored → Phase
phase v = phase_in v.stage

-- the phases come in turn, and a cycle ends with its sweep
abbrev pub PhaseTurns : Phase → Phase → (ended : Bool) → Type 0
PhaseTurns Idle Mark ended = ended ≡ false
PhaseTurns Mark Mark ended = ended ≡ false
PhaseTurns Mark Sweep ended = ended ≡ false
PhaseTurns Sweep Sweep ended = ended ≡ false
PhaseTurns Sweep Idle ended = ended ≡ true
PhaseTurns _ _ ended = ⊥

-- the slots and the roots; nobody sees in which order the grey ones wait
abbrev pub shown_body : Stored → Body
shown_body v = record { slots = v.slots; grey = []; roots = bare v.roots }

-- by slots: what a slot holds, whether it is free or its colour, and what of it is held, without its colour
abbrev pub spot_at : Stored → ℕ → Option Spot
spot_at v i = slice_index_or v.slots i None

abbrev pub mark_in : Stored → ℕ → table.Mark
mark_in v i = spot_mark (spot_at v i)

abbrev pub serial_in_slot : Stored → ℕ → Option ℕ
serial_in_slot v i = spot_serial (spot_at v i)

abbrev pub kept : Stored → ℕ → Option Kept
kept v i = seen v.stage i (spot_at v i)

abbrev pub IsParkedAt : Stored → ℕ → Type 0
IsParkedAt v i = (s : Spot) × (spot_at v i ≡ Some s) × (keeps v.stage i s.colour ≡ false)

abbrev pub IsRootAt : Stored → ℕ → Type 0
IsRootAt v i = HasRoot (bare v.roots) i

-- how many slots there are, are free, and are parked
abbrev pub slot_count : Stored → ℕ
slot_count v = length v.slots

abbrev pub free_slots : Stored → ℕ
free_slots v = total (λ i. free_one (spot_at v i)) (slot_count v)

abbrev pub parked_count : Stored → ℕ
parked_count v = total (λ i. parked_one v.stage i (spot_at v i)) (slot_count v)

-- the serial of what is held in a slot, if anything is
abbrev pub kept_serial : Option Kept → Option ℕ
kept_serial None = None
kept_serial (Some k) = Some k.serial

abbrev pub place : Stored → ℕ → Option ℕ
place v i = kept_serial (kept v i)

abbrev pub serial_at : Stored → ℕ → ℕ
serial_at v i = unwrap_or (place v i) 0

-- what is held, slot by slot from number i on, and as a protection graph with this next serial
abbrev pub kept_from : Stage → ℕ → List (Option Spot) → List (Option Kept)
kept_from g i [] = []
kept_from g i (o ∷ os) = seen g i o ∷ kept_from g (suc i) os

abbrev pub held : Stored → ℕ → Protection
held v next = graph.held (kept_from v.stage 0 v.slots) next

-- its vertices, and its edges right by right; neither depends on the next serial
abbrev pub vertices : Stored → finmap.FinMap nat_cmp Vertex
vertices v = (held v 0).vertices

abbrev pub triples : Stored → Triples
triples v = (held v 0).triples

-- by serials: what is held, what is parked, the grey and the black ones
abbrev pub IsHeldIn : Stored → ℕ → Type 0
IsHeldIn v x = finmap.contains_key (vertices v) x ≡ true

abbrev pub IsParkedIn : Stored → ℕ → Type 0
IsParkedIn v x = (i : ℕ) × IsParkedAt v i × (serial_in_slot v i ≡ Some x)

abbrev pub IsColoured : Colour → Stored → ℕ → Type 0
IsColoured c v x = (i : ℕ) × (mark_in v i ≡ Has c) × (serial_in_slot v i ≡ Some x)

abbrev pub IsGreyIn : Stored → ℕ → Type 0
IsGreyIn v x = IsColoured Grey v x

abbrev pub IsBlackIn : Stored → ℕ → Type 0
IsBlackIn v x = IsColoured Black v x

-- x has some right over y
abbrev pub IsEdgeIn : Stored → ℕ → ℕ → Type 0
IsEdgeIn v x y = (r : Right) × (finset.contains (triples v) (record { from = x; right = r; to = y }) ≡ true)

-- the serials of the principals, and of each seat's target and agent; the roots are all of these
abbrev pub root_serial : Option Root → Option ℕ
root_serial None = None
root_serial (Some r) = Some r.serial

abbrev pub principals : Stored → List ℕ
principals v = map (λ (r : Root). r.serial) v.roots.principals

abbrev pub pending : Stored → List (Option ℕ)
pending v = map (λ o. root_serial o) v.roots.targets

abbrev pub pending_of : Stored → ℕ → Option ℕ
pending_of v seat = slice_index_or (pending v) seat None

abbrev pub agents : Stored → List (Option ℕ)
agents v = map (λ o. root_serial o) v.roots.agents

abbrev pub agent_of : Stored → ℕ → Option ℕ
agent_of v seat = slice_index_or (agents v) seat None

abbrev pub IsRootIn : Stored → ℕ → Type 0
IsRootIn v x = Contains (principals v) x ⊎ (Contains (pending v) (Some x) ⊎ Contains (agents v) (Some x))

-- the most collector steps of a cycle, with this many slots and cells
abbrev pub cycle_bound : (slots cells : ℕ) → ℕ
cycle_bound slots cells = bound slots cells
