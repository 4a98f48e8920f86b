-- what contracts see of the heap: a labelled graph over slots
use Rattle.std.specs.Prelude.{◌≡◌, ℕ, ◌<◌, List, [], ◌∷◌, length}
use Rattle.tg_slots.specs.Promise.Table.{Table, Mark, Free, Has, mark, recoloured, IsSound}
use Rattle.tg_lists.specs.Promise.Membership.{Contains}
use Rattle.tg_cells.specs.declared.key.Key.{Key}
use Rattle.tg_cells.specs.Promise.Lists.{Edge, CellLists, owned, IsCells}
use Rattle.tg_slots.specs.declared.colour.Colour.{Colour}
use Rattle.tg_slots.specs.declared.colour.Colour.TheVariants.{White, Grey, Black}

-- the slots, each owner's edges from the first, the number of free cells, that of all cells, and the key by which edges
-- are found
pub record HeapGraph : Type 0 where
  pub table : Table
  pub lists : List (List Edge)
  pub free_cells : ℕ
  pub cell_count : ℕ
  pub key : Key

-- the edges of the vertex in a slot
abbrev pub edges : HeapGraph → ℕ → List Edge
edges h i = owned h.lists i

abbrev pub mark_at : HeapGraph → ℕ → Mark
mark_at h i = mark h.table i

-- the cells' part of a heap, and a heap from its two parts
abbrev pub cell_lists : HeapGraph → CellLists
cell_lists h = record { lists = h.lists; free = h.free_cells; size = h.cell_count; key = h.key }

-- a table after a slot was shaded: a white slot is grey and waits, others stay
abbrev pub shaded_by : Mark → Table → ℕ → Table
shaded_by Free t i = t
shaded_by (Has White) t i = record t { slots = recoloured t i Grey; grey = i ∷ t.grey }
shaded_by (Has Grey) t i = t
shaded_by (Has Black) t i = t

abbrev pub shaded : Table → ℕ → Table
shaded t i = shaded_by (mark t i) t i

-- a table after a vertex took a colour
abbrev pub painted : Table → ℕ → Colour → Table
painted t i c = record t { slots = recoloured t i c }

-- what always holds of a heap: of its slots, of its cells, and between the two
pub record IsHeap (h : HeapGraph) : Type 0 where
  pub table : IsSound h.table
  pub cells : IsCells (cell_lists h)
  pub owners : length h.lists ≡ length h.table.slots
  pub targets : (i : ℕ) (e : Edge) → Contains (edges h i) e → e.target < length h.table.slots
  pub free_bare : (i : ℕ) → mark_at h i ≡ Free → edges h i ≡ []
