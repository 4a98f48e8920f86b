use Rattle.std.proofs.Common.{ℕ}
use Rattle.tg_cells.proofs.WalkLemmas.{Walked}
use Rattle.tg_heap.specs.Promise.Graph.{edges}
use Rattle.tg_tests.proofs.heap.has_edges.Given as goal

-- The cursor is somewhere in the slot's list.
abbrev pub invariant-loop-edge : goal.invariant-loop-edge
invariant-loop-edge g l = (count : ℕ) × Walked (edges l.heap l.id) l.next count
