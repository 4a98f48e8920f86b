-- the lists that linked cells represent: a row of cells for each owner, one of free cells among those used so far, and an
-- index of the edges
use Rattle.std.specs.Prelude.{◌≡◌, ℕ, ◌+◌, ◌*◌, ◌≤◌, List, length, map}
use Rattle.tg_rights.specs.declared.limits.TheConstants.{MAX_CELLS, MAX_SLOTS}
use Rattle.tg_lists.specs.Promise.Membership.{Contains, Distinct}
use Rattle.tg_index.specs.declared.buckets.Link.{Link}
use Rattle.tg_index.specs.Promise.Rows.{Rows, IsUnheld}
use Rattle.tg_index.specs.Inner.Links.{AreLinked, walked}
use Rattle.tg_cells.specs.declared.pool.Cell.{Cell}
use Rattle.tg_cells.specs.declared.cells.Cells.TheInside.{Inside}
use Rattle.tg_cells.specs.Promise.Lists.{Edge, CellLists, owned, cells, IsCells}
use Rattle.tg_cells.specs.Inner.Chain.{edge_in, links_of, IsEntry, Row}
use Rattle.tg_cells.specs.Inner.Index.{bucket_of, IsIndexed}

-- the numbers of the lists' cells
abbrev pub rows_of : List Link → CellLists → Rows
rows_of ls v = record { lists = map cells v.lists; used = length ls; size = v.size }

-- the row of the free ones of the cells that were used so far, none of which is in a list; together with those never
-- used they are `count`
pub record IsFree (end : ℕ) (ls : List Link) (rows : List (List ℕ)) (head count : ℕ) : Type 0 where
  pub numbers : List ℕ
  pub once : Distinct numbers
  pub unheld : (n : ℕ) → Contains numbers n → IsUnheld rows n
  pub row : Row end ls head numbers
  pub counted : count + length ls ≡ length numbers + end

-- these heads, cells and first free cell show the lists v
pub record AreListed (hs : List ℕ) (cs : List Cell) (first : ℕ) (v : CellLists) : Type 0 where
  pub rows : AreLinked hs (links_of cs) (rows_of (links_of cs) v)
  pub entries : (i : ℕ) (e : Edge) → Contains (owned v.lists i) e → IsEntry cs i e
  pub free : IsFree v.size (links_of cs) (map cells v.lists) first v.free
  pub sound : IsCells v

-- the edges in the cells of the rows that the walks from all heads return
abbrev pub view_of : Inside → CellLists
view_of s = record { lists = map (λ ns. map (edge_in s.cells.items) ns) (walked s.heads.items (links_of s.cells.items) s.size).lists; free = s.free_count; size = s.size; key = s.key }

pub record IsInside (s : Inside) : Type 0 where
  pub shown : AreListed s.heads.items s.cells.items s.free (view_of s)
  pub most : s.size ≤ MAX_CELLS
  pub most_owners : length s.heads.items ≤ MAX_SLOTS
  pub room : s.size ≤ s.cells.room

-- the bucket of an owner and a serial in the index
abbrev pub place_in : Inside → ℕ → ℕ → ℕ
place_in s = bucket_of s.key (length s.index.lists)

-- the index has these lists' edges, as many used numbers as there are used cells, and a bucket for each four cells
pub record Indexes (s : Inside) (lists : List (List Edge)) : Type 0 where
  pub some : 1 ≤ length s.index.lists
  pub enough : s.size ≤ 4 * length s.index.lists
  pub used : s.index.used ≡ length s.cells.items
  pub size : s.index.size ≡ s.size
  pub edges : IsIndexed (place_in s) s.index.lists lists

pub record IsKept (s : Inside) : Type 0 where
  pub inside : IsInside s
  pub index : Indexes s (view_of s).lists
