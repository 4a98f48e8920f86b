use Rattle.std.proofs.Common.{◌≡◌, length}
use Rattle.tg_graph.specs.Inner.Restricting.{without_below}
use Rattle.tg_graph.proofs.restricting.without_below.Given as goal

abbrev pub invariant-loop-left : goal.invariant-loop-left
invariant-loop-left l = without_below l.left l.serial ≡ without_below l.kept l.serial

abbrev pub decreases-loop-left : goal.decreases-loop-left
decreases-loop-left l = length l.left
