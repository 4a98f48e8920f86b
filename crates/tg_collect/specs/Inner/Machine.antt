-- the machine as one list of slots with its roots, a grey list and a progress
use Rattle.tg_marking.specs.Promise.Values as values
use Rattle.tg_collect.specs.declared.note.Phase.TheVariants as phase
use Rattle.tg_heap.specs.declared.heap.HeapFull.TheVariants as full
use Rattle.std.specs.Prelude.{◌≡◌, ◌≢◌, ℕ, ◌+◌, ◌<◌, ◌≤◌, List, [], ◌∷◌, length, Option, Some, None, Bool, slice_index_or, slice_set, Result, Ok, Err, false, cond, nat_eq, ◌&&◌, nat_lt}
use Rattle.tg_rights.specs.declared.limits.TheConstants.{MAX_PRINCIPALS, SEATS}
use Rattle.tg_rights.specs.Promise.Letters.{Letters}
use Rattle.tg_slots.specs.Promise.Table.{Table, Has, slot}
use Rattle.tg_slots.specs.declared.slots.Occupant.{Occupant}
use Rattle.tg_cells.specs.Promise.Lists.{Edge, first_cell, HasNone}
use Rattle.tg_heap.specs.Promise.Graph.{HeapGraph, edges, shaded}
use Rattle.tg_heap.specs.Inner.Marking.{remaining}
use Rattle.tg_heap.specs.Promise.Calls.{IsAdded, IsDropped}
use Rattle.tg_heap.specs.declared.heap.Dropped.{Dropped}
use Rattle.tg_heap.specs.declared.heap.Dropped.TheVariants.{Kept, Gone}
use Rattle.tg_heap.specs.declared.heap.HeapFull.{HeapFull}
use Rattle.tg_marking.specs.Promise.Values.{Contains, Kind, White, Black, Colour, Spot, Body, slot_serial, slot_mark, IsTarget}
use Rattle.tg_marking.specs.Promise.Steps.{Line, new_colour}
use Rattle.tg_marking.specs.Promise.Invariant.{Invariant}
use Rattle.tg_collect.specs.declared.note.Phase.{Phase}
use Rattle.tg_collect.specs.declared.machine.Root.{Root}
use Rattle.tg_collect.specs.declared.machine.Roots.{Roots}
use Rattle.tg_collect.specs.declared.machine.Scan.{Scan}
use Rattle.tg_collect.specs.declared.machine.Progress.{Progress}
use Rattle.tg_collect.specs.declared.machine.Progress.TheVariants.{Idle, Marking, Sweeping}
use Rattle.tg_collect.specs.declared.machine.Machine.{Machine}
use Rattle.tg_collect.specs.Promise.Stored.{RootLists, with_target, IsListed, bare}

abbrev pub lists_of : Roots → RootLists
lists_of r = record { targets = r.targets.items; principals = r.principals; agents = r.agents.items }

-- what a slot holds with its edges, and all slots in one list
abbrev pub join : Option Occupant → List Edge → Option Spot
join None es = None
join (Some o) es = Some (record { serial = o.serial; kind = o.kind; text = o.text; edges = es; colour = o.colour })

abbrev pub zip : List (Option Occupant) → List (List Edge) → List (Option Spot)
zip [] ls = []
zip (o ∷ os) [] = join o [] ∷ zip os []
zip (o ∷ os) (es ∷ ls) = join o es ∷ zip os ls

abbrev pub body_of : HeapGraph → RootLists → Body
body_of h rs = record { slots = zip h.table.slots h.lists; grey = h.table.grey; roots = bare rs }

abbrev pub body : Machine → Body
body m = body_of m.heap (lists_of m.roots)

-- the progress, with the edges that are left in place of a cursor
abbrev pub scan_in : HeapGraph → Option Scan → Option values.Scan
scan_in h None = None
scan_in h (Some s) = Some (record { slot = s.slot; rest = remaining s.cursor (edges h s.slot) })

abbrev pub progress_in : HeapGraph → Progress → values.Progress
progress_in h Idle = values.AtRest
progress_in h (Marking s) = values.Marking (scan_in h s)
progress_in h (Sweeping k) = values.Sweeping k

abbrev pub progress_of : Machine → values.Progress
progress_of m = progress_in m.heap m.progress

-- the cursor stands at a cell of the list, or at its end
abbrev pub CursorFits : HeapGraph → Progress → Type 0
CursorFits h Idle = Unit {0}
CursorFits h (Marking None) = Unit {0}
CursorFits h (Marking (Some s)) = s.cursor ≡ first_cell (remaining s.cursor (edges h s.slot))
CursorFits h (Sweeping k) = Unit {0}

-- 64 seats, at most 64 principals, and the serial of each root in its slot
pub record AreRoots (rs : RootLists) (b : Body) : Type 0 where
  pub seats : length rs.targets ≡ SEATS
  pub few : length rs.principals ≤ MAX_PRINCIPALS
  pub agents : length rs.agents ≡ SEATS
  pub named : (r : Root) → IsListed rs r → slot_serial b r.slot ≡ Some r.serial

-- the machine when its collector has come this far, and a slot under scan
abbrev pub so_far : Machine → Progress → Machine
so_far m p = record m { progress = p }

abbrev pub scanning : ℕ → Option ℕ → Progress
scanning i cursor = Marking (Some (record { slot = i; cursor = cursor }))

-- the invariant of the store
pub record Whole (m : Machine) : Type 0 where
  pub kept : Invariant (body m) (progress_of m)
  pub cursor : CursorFits m.heap m.progress
  pub roots : AreRoots (lists_of m.roots) (body m)

-- the cells and the key stay, and this many slots are freed, with a cell at most
pub record Counts (h g : HeapGraph) (freed : ℕ) : Type 0 where
  pub cells : g.cell_count ≡ h.cell_count
  pub key : g.key ≡ h.key
  pub free_slots : length g.table.free ≡ length h.table.free + freed
  pub free_cells : (h.free_cells ≤ g.free_cells) × (g.free_cells ≤ h.free_cells + 1)

-- a step of the collector: a line of its table
pub record Steps (m n : Machine) (freed : ℕ) (ended : Bool) : Type 0 where
  pub line : Line (body m) (progress_of m) (body n) (progress_of n) freed ended
  pub cursor : CursorFits n.heap n.progress
  pub roots : n.roots ≡ m.roots
  pub counts : Counts m.heap n.heap freed

-- no seat's target is white; the target of the least seat that has a white one
abbrev pub NoneWhite : Machine → Type 0
NoneWhite m = (i : ℕ) → IsTarget (body m) i → slot_mark (body m) i ≡ Has White → ⊥

abbrev pub ShadesFirst : Machine → ℕ → Type 0
ShadesFirst m i = (k : ℕ) × (slice_index_or (body m).roots.targets k None ≡ Some i) × (slot_mark (body m) i ≡ Has White)
    × ((l j : ℕ) → l < k → slice_index_or (body m).roots.targets l None ≡ Some j → slot_mark (body m) j ≢ Has White)

-- a table, and a machine, after the slots of some roots were shaded, from the last to the first
abbrev pub shaded_slot : Table → Option ℕ → Table
shaded_slot t None = t
shaded_slot t (Some i) = shaded t i

abbrev pub all_shaded : List (Option ℕ) → Table → Table
all_shaded [] t = t
all_shaded (r ∷ rs) t = shaded_slot (all_shaded rs t) r

abbrev pub with_shaded : Machine → List (Option ℕ) → Machine
with_shaded m rs = record m { heap = record m.heap { table = all_shaded rs m.heap.table } }

abbrev pub AreWithin : List (Option ℕ) → Table → Type 0
AreWithin rs t = (i : ℕ) → Contains rs (Some i) → i < length t.slots

-- the slots of the principals, and then of the agents
abbrev pub other_slots : Roots → List (Option ℕ)
other_slots r = (bare (lists_of r)).others

-- the phase that others see
abbrev pub phase_of : Progress → Phase
phase_of Idle = phase.Idle
phase_of (Marking s) = phase.Mark
phase_of (Sweeping k) = phase.Sweep

-- The session steps.

-- the seat's target is shaded and the seat is cleared
abbrev pub ShadesSeat : Machine → ℕ → Option ℕ → Machine → Type 0
ShadesSeat m seat None n = (slice_index_or m.roots.targets.items seat None ≡ None) × (n ≡ m)
ShadesSeat m seat (Some serial) n = (slot : ℕ) × (slice_index_or m.roots.targets.items seat None ≡ Some (record { serial = serial; slot = slot }))
    × (lists_of n.roots ≡ with_target (lists_of m.roots) seat None)
    × (n ≡ record m { heap = record m.heap { table = shaded m.heap.table slot }; roots = n.roots })

-- an edge gains rights and its target is the seat's pending one; or the edge is new and no cell is free
abbrev pub Adds : {U : Type 0} → Machine → (seat id : ℕ) → Root → Letters → Result U HeapFull → Machine → Type 0
Adds m seat id target rights (Ok t) n = (o : Occupant) × (slot m.heap.table target.slot ≡ Some o) × IsAdded m.heap n.heap id target.slot o.serial rights
    × (lists_of n.roots ≡ with_target (lists_of m.roots) seat (Some target))
    × (n ≡ record m { heap = n.heap; roots = n.roots })
Adds m seat id target rights (Err e) n = (e ≡ full.Cells) × (o : Occupant) × (slot m.heap.table target.slot ≡ Some o) × HasNone (edges m.heap id) o.serial × (m.heap.free_cells ≡ 0) × (n ≡ m)

-- the same when it cannot be refused
abbrev pub LinksTo : Machine → (seat id : ℕ) → Root → Letters → Machine → Type 0
LinksTo m seat id target rights n = Adds {U = Unit {0}} m seat id target rights (Ok tt) n

-- a cursor at a freed cell moves to the next cell
abbrev pub is_at : Option ℕ → ℕ → Bool
is_at None c = false
is_at (Some k) c = nat_eq k c

abbrev pub progress_without : Progress → ℕ → ℕ → Option ℕ → Progress
progress_without Idle i c n = Idle
progress_without (Sweeping k) i c n = Sweeping k
progress_without (Marking None) i c n = Marking None
progress_without (Marking (Some s)) i c n = Marking (Some (record { slot = s.slot; cursor = cond (nat_eq s.slot i && is_at s.cursor c) n s.cursor }))

abbrev pub progress_dropped : Progress → ℕ → Dropped → Progress
progress_dropped p id Kept = p
progress_dropped p id (Gone cell next) = progress_without p id cell next

-- an edge loses rights, and goes if it is left with none
abbrev pub Removes : Machine → (id serial : ℕ) → Letters → Machine → Type 0
Removes m id serial rights n = (d : Dropped) × IsDropped m.heap n.heap id serial rights d × (n ≡ record m { heap = n.heap; progress = progress_dropped m.progress id d })

-- whether the sweep has passed a slot, and the colour of a vertex that comes into one that it has not
abbrev pub has_passed : Progress → ℕ → Bool
has_passed Idle i = false
has_passed (Marking s) i = false
has_passed (Sweeping k) i = nat_lt i k

abbrev pub colour_ahead : Progress → Colour
colour_ahead Idle = White
colour_ahead (Marking s) = White
colour_ahead (Sweeping k) = Black

-- a vertex without edges comes into the first free slot, or no slot is free
abbrev pub Puts : Machine → ℕ → Kind → List ℕ → Result ℕ (List ℕ) → Machine → Type 0
Puts m serial kind text (Ok i) n = (rest : List ℕ) × (m.heap.table.free ≡ i ∷ rest)
    × (n ≡ record m {
      heap = record m.heap {
        table = record m.heap.table {
          slots = slice_set m.heap.table.slots i (Some (record { serial = serial; kind = kind; colour = new_colour (values.shown (progress_of m)) i; text = text }));
          free = rest;
        };
      };
    })
Puts m serial kind text (Err back) n = (back ≡ text) × (m.heap.table.free ≡ []) × (n ≡ m)

-- the roots are these, and nothing else changes
abbrev pub Rerooted : Machine → RootLists → Machine → Type 0
Rerooted m rs n = (lists_of n.roots ≡ rs) × (n ≡ record m { roots = n.roots })

-- the text in a slot is replaced
abbrev pub SetsText : Machine → ℕ → (text old : List ℕ) → Machine → Type 0
SetsText m id text old n = (o : Occupant) × (slot m.heap.table id ≡ Some o) × (old ≡ o.text)
    × (n ≡ record m { heap = record m.heap { table = record m.heap.table { slots = slice_set m.heap.table.slots id (Some (record o { text = text })) } } })
