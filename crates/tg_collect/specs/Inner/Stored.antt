-- the value of a store, as its machine has it
use Rattle.tg_marking.specs.Promise.Values.{shown}
use Rattle.tg_marking.specs.Promise.Left.{left}
use Rattle.tg_collect.specs.declared.machine.Machine.{Machine}
use Rattle.tg_collect.specs.Inner.Machine.{lists_of, zip, body, progress_of}
use Rattle.tg_collect.specs.Promise.Stored.{Stored}

abbrev pub stored : Machine → Stored
stored m = record {
  slots = zip m.heap.table.slots m.heap.lists;
  stage = shown (progress_of m);
  roots = lists_of m.roots;
  free_cells = m.heap.free_cells;
  cells = m.heap.cell_count;
  left = left m.heap.cell_count (body m) (progress_of m);
  key = m.heap.key;
}
