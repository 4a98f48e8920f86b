use Rattle.std.proofs.Common.{◌≡◌, ◌++◌, List, length, map}
use Rattle.std.specs.List.{filter}
use Rattle.tg_cells.specs.Promise.Lists.{Edge, first_cell}
use Rattle.tg_heap.specs.Promise.Graph.{edges}
use Rattle.tg_heap.specs.Inner.Marking.{remaining}
use Rattle.tg_collect.specs.Inner.Figures.{edge_from, is_there}
use Rattle.tg_collect.specs.Inner.Stored.{stored}
use Rattle.tg_collect.proofs.machine.Machine.add_arrows.Given as goal

-- The edges before the cursor were added.
abbrev pub invariant-loop-cursor : goal.invariant-loop-cursor
invariant-loop-cursor l = (p : List Edge) × (r : List Edge) × (edges l.self.heap l.id ≡ p ++ r) × (l.cursor ≡ first_cell r) × (l.found.items ≡ l.fn.found.items ++ map (edge_from l.from) (filter (is_there (stored l.self)) p))

abbrev pub decreases-loop-cursor : goal.decreases-loop-cursor
decreases-loop-cursor l = length (remaining l.cursor (edges l.self.heap l.id))
