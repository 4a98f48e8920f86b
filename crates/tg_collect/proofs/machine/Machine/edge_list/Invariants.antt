use Rattle.std.proofs.Common.{◌≡◌, ◌-◌, ◌++◌, List, length, map}
use Rattle.tg_cells.specs.Promise.Lists.{Edge, first_cell}
use Rattle.tg_heap.specs.Promise.Graph.{edges}
use Rattle.tg_collect.proofs.machine.Machine.edge_list.Given as goal

-- The edges before the cursor are in the list.
abbrev pub invariant-loop-cursor : goal.invariant-loop-cursor
invariant-loop-cursor l = (p : List Edge) × (r : List Edge) × (edges l.self.heap l.id ≡ p ++ r) × (l.cursor ≡ first_cell r) × (l.list.items ≡ map (λ (e : Edge). (e.serial, e.rights)) p)

abbrev pub decreases-loop-cursor : goal.decreases-loop-cursor
decreases-loop-cursor l = length (edges l.self.heap l.id) - length l.list.items
