use Rattle.std.proofs.Common.{◌≡◌, length}
use Rattle.tg_tests.proofs.cells.fill.Given as goal

abbrev pub invariant-loop-target : goal.invariant-loop-target
invariant-loop-target g l = length l.cells.lists ≡ length l.initial.cells.lists
