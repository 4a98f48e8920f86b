use Rattle.std.proofs.Common.{◌≡◌, length}
use Rattle.tg_slots.specs.Promise.Table.{Has}
use Rattle.tg_slots.specs.declared.colour.Colour.TheVariants.{White}
use Rattle.tg_heap.specs.Promise.Graph.{edges, mark_at}
use Rattle.tg_tests.proofs.heap.clear.Given as goal

abbrev pub invariant-loop : goal.invariant-loop
invariant-loop g l = mark_at l.heap l.id ≡ Has White

abbrev pub decreases-loop : goal.decreases-loop
decreases-loop g l = length (edges l.heap l.id)
