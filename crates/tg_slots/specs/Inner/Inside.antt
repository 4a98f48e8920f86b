-- the table that linked slots represent
use Rattle.std.specs.Prelude.{◌≡◌, ◌-◌, ◌≤◌, ℕ, length, List, ◌++◌, map}
use Rattle.tg_rights.specs.declared.limits.TheConstants.{MAX_SLOTS}
use Rattle.tg_slots.specs.Inner.Linked.{Linked, occupants}
use Rattle.tg_slots.specs.declared.slots.Slots.TheInside.{Inside}
use Rattle.tg_slots.specs.Inner.Chain.{walk, IndexChain}
use Rattle.tg_slots.specs.Promise.Table.{Table, IsSound, nones, indices}

abbrev pub links : List Linked → List ℕ
links es = map (λ e. e.link) es

-- the table of this many slots, of which these were used so far, with the heads of the two lists: the others are free,
-- behind the free ones of those that were used
abbrev pub table_of : ℕ → List Linked → ℕ → ℕ → Table
table_of size es free grey = record {
  slots = occupants es ++ nones (size - length es);
  free = walk size (links es) size free ++ indices (length es) (size - length es);
  grey = walk size (links es) size grey;
}

abbrev pub table : Inside → Table
table s = table_of s.size s.entries.items s.free s.grey

-- the free ones of the slots that were used, and the grey ones, are chains from both heads
pub record Shows (size : ℕ) (es : List Linked) (head waiting : ℕ) (t : Table) : Type 0 where
  pub used : length es ≤ size
  pub slots : occupants es ++ nones (size - length es) ≡ t.slots
  pub rest : List ℕ
  pub listed : t.free ≡ rest ++ indices (length es) (size - length es)
  pub free : IndexChain size (links es) head rest
  pub grey : IndexChain size (links es) waiting t.grey
  pub sound : IsSound t

-- the free ones are counted, and there is room for all slots
pub record IsInside (s : Inside) : Type 0 where
  pub shown : Shows s.size s.entries.items s.free s.grey (table s)
  pub count : s.free_count ≡ length (table s).free
  pub size : s.size ≤ MAX_SLOTS
  pub room : s.size ≤ s.entries.room
