-- the value of a store, and what is read off it
use Rattle.std.specs.Prelude.{◌≡◌, ℕ, List, [], Option, Some, None, ◌⊎◌, Bool, true, false, if◌then◌else◌, slice_index_or, nat_lt, zero, suc, ◌+◌}
pub use Rattle.tg_lists.specs.Promise.Membership.{Contains, Distinct}
pub use Rattle.tg_rights.specs.declared.kind.Kind.{Kind}
pub use Rattle.tg_slots.specs.declared.colour.Colour.{Colour}
pub use Rattle.tg_slots.specs.declared.colour.Colour.TheVariants.{White, Grey, Black}
use Rattle.tg_slots.specs.Promise.Table as table
pub use Rattle.tg_slots.specs.Promise.Table.{Free, Has}
pub use Rattle.tg_cells.specs.Promise.Lists.{Edge}

-- what a slot holds
pub record Spot : Type 0 where
  pub serial : ℕ
  pub kind : Kind
  pub text : List ℕ
  pub edges : List Edge
  pub colour : Colour

-- the slot under scan, and its edges from the cursor on
pub record Scan : Type 0 where
  pub slot : ℕ
  pub rest : List Edge

-- how far a cycle has come, with the scan
pub data Progress : Type 0 where
  AtRest : Progress
  Marking : Option Scan → Progress
  Sweeping : ℕ → Progress

-- the phase, and in the sweep the slot that it is before
pub data Stage : Type 0 where
  Idle : Stage
  Mark : Stage
  Sweep : ℕ → Stage

-- a progress, without its scan
abbrev pub shown : Progress → Stage
shown AtRest = Idle
shown (Marking s) = Mark
shown (Sweeping k) = Sweep k

-- the roots: each seat's target, and all others
pub record Roots : Type 0 where
  pub targets : List (Option ℕ)
  pub others : List (Option ℕ)

-- the slots, the grey ones that wait, and the roots
pub record Body : Type 0 where
  pub slots : List (Option Spot)
  pub grey : List ℕ
  pub roots : Roots

abbrev pub spot : Body → ℕ → Option Spot
spot b i = slice_index_or b.slots i None

-- whether a slot is free, or its colour
abbrev pub spot_mark : Option Spot → table.Mark
spot_mark None = Free
spot_mark (Some s) = Has s.colour

abbrev pub slot_mark : Body → ℕ → table.Mark
slot_mark b i = spot_mark (spot b i)

abbrev pub spot_edges : Option Spot → List Edge
spot_edges None = []
spot_edges (Some s) = s.edges

abbrev pub out : Body → ℕ → List Edge
out b i = spot_edges (spot b i)

abbrev pub spot_serial : Option Spot → Option ℕ
spot_serial None = None
spot_serial (Some s) = Some s.serial

abbrev pub slot_serial : Body → ℕ → Option ℕ
slot_serial b i = spot_serial (spot b i)

-- some seat's target; a root
abbrev pub HasTarget : Roots → ℕ → Type 0
HasTarget r i = (k : ℕ) × (slice_index_or r.targets k None ≡ Some i)

abbrev pub HasRoot : Roots → ℕ → Type 0
HasRoot r i = HasTarget r i ⊎ Contains r.others (Some i)

abbrev pub IsTarget : Body → ℕ → Type 0
IsTarget b i = HasTarget b.roots i

abbrev pub IsRootSlot : Body → ℕ → Type 0
IsRootSlot b i = HasRoot b.roots i

-- whether a slot of this colour is held, or parked until the sweep comes to it
abbrev pub keeps : Stage → ℕ → Colour → Bool
keeps (Sweep k) i White = nat_lt i k
keeps g i c = true

-- what is held, without its colour
pub record Kept : Type 0 where
  pub serial : ℕ
  pub kind : Kind
  pub text : List ℕ
  pub edges : List Edge

abbrev pub as_kept : Spot → Kept
as_kept s = record { serial = s.serial; kind = s.kind; text = s.text; edges = s.edges }

abbrev pub seen : Stage → ℕ → Option Spot → Option Kept
seen g i None = None
seen g i (Some s) = if keeps g i s.colour then Some (as_kept s) else None

abbrev pub kept_in : Body → Stage → ℕ → Option Kept
kept_in b g i = seen g i (spot b i)

abbrev pub Parked : Body → Stage → ℕ → Type 0
Parked b g i = (s : Spot) × (spot b i ≡ Some s) × (keeps g i s.colour ≡ false)

-- the sum of a function over the numbers below n
abbrev pub total : (ℕ → ℕ) → ℕ → ℕ
total f zero = 0
total f (suc n) = total f n + f n

-- how many slots are free, held and parked
abbrev pub free_one : Option Spot → ℕ
free_one None = 1
free_one (Some s) = 0

abbrev pub parked_one : Stage → ℕ → Option Spot → ℕ
parked_one g i None = 0
parked_one g i (Some s) = if keeps g i s.colour then 0 else 1
