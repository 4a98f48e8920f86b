-- what contracts see of the slots in memory
use Rattle.std.specs.Prelude.{ℕ, List, [], ◌∷◌, ◌++◌, Option, None, map, slice_index_or, length, cond, nat_lt, slice_set}
use Rattle.tg_slots.specs.declared.slots.Occupant.{Occupant}

-- the vertex in a slot, if there is one, and the next slot of its list
pub record Linked : Type 0 where
  pub occupant : Option Occupant
  pub link : ℕ

-- some slots, from index 0 on, and for how many there is room
pub record Shelved : Type 0 where
  pub items : List Linked
  pub room : ℕ

-- a free slot
abbrev pub blank : Linked
blank = record { occupant = None; link = 0 }

-- the slot of an index; a free one if there is none
abbrev pub at : List Linked → ℕ → Linked
at es i = slice_index_or es i blank

-- the vertex in the slot of an index, if there is such a slot and a vertex in it
abbrev pub occupant_at : List Linked → ℕ → Option Occupant
occupant_at es i = (at es i).occupant

abbrev pub occupants : List Linked → List (Option Occupant)
occupants es = map (λ e. e.occupant) es

-- the slots after one was written, or the next one was appended
abbrev pub written : List Linked → ℕ → Linked → List Linked
written es i e = cond (nat_lt i (length es)) (slice_set es i e) (es ++ e ∷ [])
