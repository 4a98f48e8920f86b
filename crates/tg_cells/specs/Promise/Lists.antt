-- what contracts see of the cells: one list of edges for each owner
use Rattle.std.specs.Prelude.{◌≡◌, ◌≢◌, ℕ, ◌+◌, List, [], ◌∷◌, ◌++◌, length, Option, Some, None, map, sum_by, false}
use Rattle.std.proofs.Common.{get_or}
use Rattle.tg_lists.specs.Promise.Membership.{Contains, Distinct}
use Rattle.tg_rights.specs.Promise.Letters.{Letters, is_none}
use Rattle.tg_cells.specs.declared.key.Key.{Key}

-- an edge: the cell that holds it, the slot and the serial that it leads to, and its label
pub record Edge : Type 0 where
  pub cell : ℕ
  pub target : ℕ
  pub serial : ℕ
  pub rights : Letters

-- each owner's edges from the first, the number of free cells, that of all cells, and the key of the index
pub record CellLists : Type 0 where
  pub lists : List (List Edge)
  pub free : ℕ
  pub size : ℕ
  pub key : Key

-- one owner's edges
abbrev pub owned : List (List Edge) → ℕ → List Edge
owned lists i = get_or lists i []

-- the cells of some edges, and the serials that they lead to
abbrev pub cells : List Edge → List ℕ
cells es = map (λ e. e.cell) es

abbrev pub edge_serials : List Edge → List ℕ
edge_serials es = map (λ e. e.serial) es

-- the cell of the first edge
abbrev pub first_cell : List Edge → Option ℕ
first_cell [] = None
first_cell (e ∷ es) = Some e.cell

-- a cell's owner, with the edges before it and after it
pub record Stands (lists : List (List Edge)) (cell owner : ℕ) (before : List Edge) (e : Edge) (after : List Edge) : Type 0 where
  pub is : owned lists owner ≡ before ++ e ∷ after
  pub here : e.cell ≡ cell

-- the cell is in some owner's list, between such edges
pub record IsLinked (lists : List (List Edge)) (cell : ℕ) : Type 0 where
  pub owner : ℕ
  pub before : List Edge
  pub edge : Edge
  pub after : List Edge
  pub stands : Stands lists cell owner before edge after

-- the cell is in this owner's list, between such edges
pub record IsLinkedBy (lists : List (List Edge)) (cell owner : ℕ) : Type 0 where
  pub before : List Edge
  pub edge : Edge
  pub after : List Edge
  pub stands : Stands lists cell owner before edge after

-- the owner has no edge of the serial
abbrev pub HasNone : List Edge → ℕ → Type 0
HasNone es serial = (e : Edge) → Contains es e → e.serial ≢ serial

-- the cell is in nobody's list
abbrev pub IsUnowned : List (List Edge) → ℕ → Type 0
IsUnowned lists cell = (i : ℕ) (e : Edge) → Contains (owned lists i) e → e.cell ≢ cell

-- the edge of the serial, with those before and after it
pub record Found (es : List Edge) (serial : ℕ) : Type 0 where
  pub before : List Edge
  pub edge : Edge
  pub after : List Edge
  pub is : es ≡ before ++ edge ∷ after
  pub here : edge.serial ≡ serial

-- no cell is in a list twice or in two lists, no list has a serial twice, no label is empty, and every cell is in a
-- list or free
pub record IsCells (c : CellLists) : Type 0 where
  pub cell_once : (i : ℕ) → Distinct (cells (owned c.lists i))
  pub one_owner : (i j : ℕ) (e f : Edge) → Contains (owned c.lists i) e → Contains (owned c.lists j) f → e.cell ≡ f.cell → i ≡ j
  pub serial_once : (i : ℕ) → Distinct (edge_serials (owned c.lists i))
  pub labelled : (i : ℕ) (e : Edge) → Contains (owned c.lists i) e → is_none e.rights ≡ false
  pub whole : sum_by length c.lists + c.free ≡ c.size
