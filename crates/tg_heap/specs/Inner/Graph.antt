-- slots and lists of cells, joined to a heap
use Rattle.std.specs.Prelude.{◌≡◌, ℕ, ◌<◌, [], length}
use Rattle.tg_slots.specs.Promise.Table.{Table, Free, mark}
use Rattle.tg_lists.specs.Promise.Membership.{Contains}
use Rattle.tg_cells.specs.Promise.Lists.{Edge, CellLists, owned}
use Rattle.tg_heap.specs.Promise.Graph.{HeapGraph}

abbrev pub heap_of : Table → CellLists → HeapGraph
heap_of t c = record { table = t; lists = c.lists; free_cells = c.free; cell_count = c.size; key = c.key }

-- each slot owns one list, edges lead to slots, and free slots have no edges
pub record AreJoined (t : Table) (c : CellLists) : Type 0 where
  pub owners : length c.lists ≡ length t.slots
  pub targets : (i : ℕ) (e : Edge) → Contains (owned c.lists i) e → e.target < length t.slots
  pub free_bare : (i : ℕ) → mark t i ≡ Free → owned c.lists i ≡ []
