-- what cells hold, and their links, which are those of tg_index
use Rattle.std.specs.Prelude.{◌≡◌, ℕ, ◌<◌, List, [], ◌∷◌, length, map, slice_set}
use Rattle.std.proofs.Common.{get_or}
use Rattle.tg_rights.specs.Promise.Letters.{none}
use Rattle.tg_index.specs.declared.buckets.Link.{Link}
use Rattle.tg_index.specs.Inner.Links.{link_at}
use Rattle.tg_cells.specs.declared.pool.Cell.{Cell}
use Rattle.tg_cells.specs.Promise.Lists.{Edge}

-- some cells, from number 0 on, and for how many there is room
pub record Pooled : Type 0 where
  pub items : List Cell
  pub room : ℕ

-- the cell of a number; past the last, one that nothing reads
abbrev pub cell_at : List Cell → ℕ → Cell
cell_at cs n = get_or cs n (record { owner = 0; previous = 0; next = 0; target = 0; serial = 0; rights = none })

-- the edge in a cell of that number
abbrev pub edge_of : ℕ → Cell → Edge
edge_of n c = record { cell = n; target = c.target; serial = c.serial; rights = c.rights }

abbrev pub edge_in : List Cell → ℕ → Edge
edge_in cs n = edge_of n (cell_at cs n)

-- the cells once the one of a number, if there is one, has another neighbour
abbrev pub with_previous : List Cell → ℕ → ℕ → List Cell
with_previous cs n previous = slice_set cs n (record (cell_at cs n) { previous = previous })

abbrev pub with_next : List Cell → ℕ → ℕ → List Cell
with_next cs n next = slice_set cs n (record (cell_at cs n) { next = next })

-- the neighbours of each cell
abbrev pub link_of : Cell → Link
link_of c = record { next = c.next; previous = c.previous }

abbrev pub links_of : List Cell → List Link
links_of cs = map link_of cs

-- the owner of a cell of that number, and its edge
abbrev pub holding : ℕ → Cell → ℕ × Edge
holding n c = (c.owner, edge_of n c)

-- an edge is its owner's, in its cell
pub record IsEntry (cs : List Cell) (i : ℕ) (e : Edge) : Type 0 where
  pub within : e.cell < length cs
  pub holds : holding e.cell (cell_at cs e.cell) ≡ (i, e)

-- the links lead from the head over these numbers, and end there
abbrev pub Row : ℕ → List Link → ℕ → List ℕ → Type 0
Row end ls head [] = head ≡ end
Row end ls head (n ∷ ns) = (head ≡ n) × (n < length ls) × Row end ls (link_at ls n).next ns
