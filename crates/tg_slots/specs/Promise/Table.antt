-- what contracts see of a table of slots
use Rattle.std.specs.Prelude.{◌≡◌, ℕ, zero, suc, ◌<◌, List, [], ◌∷◌, length, Option, Some, None, sum_by}
use Rattle.std.proofs.Common.{get_or, set}
use Rattle.tg_lists.specs.Promise.Membership.{Contains, Distinct}
use Rattle.tg_slots.specs.declared.slots.Occupant.{Occupant}
use Rattle.tg_slots.specs.declared.colour.Colour.{Colour}
use Rattle.tg_slots.specs.declared.colour.Colour.TheVariants.{Grey}

-- the slots by index, the free indices and the waiting grey ones, each list from its first
pub record Table : Type 0 where
  pub slots : List (Option Occupant)
  pub free : List ℕ
  pub grey : List ℕ

-- the vertex in a slot
abbrev pub slot : Table → ℕ → Option Occupant
slot t i = get_or t.slots i None

-- a slot is free, or has the colour of its vertex
pub data Mark : Type 0 where
  Free : Mark
  Has : Colour → Mark

abbrev pub mark_of : Option Occupant → Mark
mark_of None = Free
mark_of (Some o) = Has o.colour

abbrev pub mark : Table → ℕ → Mark
mark t i = mark_of (slot t i)

-- a vertex, if there is one, with another colour, and with another text
abbrev pub coloured : Colour → Option Occupant → Option Occupant
coloured c None = None
coloured c (Some o) = Some (record o { colour = c })

abbrev pub with_slot_text : List ℕ → Option Occupant → Option Occupant
with_slot_text x None = None
with_slot_text x (Some o) = Some (record o { text = x })

-- a field of the vertex in a slot, if there is one
abbrev pub in_slot : {X : Type 0} → (Occupant → X) → Option Occupant → Option X
in_slot f None = None
in_slot f (Some o) = Some (f o)

-- the slots after the vertex in one of them has taken a colour
abbrev pub recoloured : Table → ℕ → Colour → List (Option Occupant)
recoloured t i c = set t.slots i (coloured c (slot t i))

-- one for a free slot
abbrev pub if_free : Option Occupant → ℕ
if_free None = 1
if_free (Some o) = 0

-- the free list has each free index once and no other, the grey list has only grey ones, each once
pub record IsSound (t : Table) : Type 0 where
  pub free_listed : (i : ℕ) → i < length t.slots → mark t i ≡ Free → Contains t.free i
  pub listed_free : (i : ℕ) → Contains t.free i → (i < length t.slots) × (mark t i ≡ Free)
  pub free_once : Distinct t.free
  pub free_count : length t.free ≡ sum_by if_free t.slots
  pub listed_grey : (i : ℕ) → Contains t.grey i → (i < length t.slots) × (mark t i ≡ Has Grey)
  pub grey_once : Distinct t.grey

-- n free slots, and the indices from i on
abbrev pub nones : ℕ → List (Option Occupant)
nones zero = []
nones (suc n) = None ∷ nones n

abbrev pub indices : ℕ → ℕ → List ℕ
indices i zero = []
indices i (suc n) = i ∷ indices (suc i) n

abbrev pub fresh : ℕ → Table
fresh n = record { slots = nones n; free = indices 0 n; grey = [] }
