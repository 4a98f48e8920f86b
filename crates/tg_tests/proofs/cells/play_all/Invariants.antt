use Rattle.std.proofs.Common.{◌≡◌, length}
use Rattle.tg_tests.proofs.cells.play_all.Given as goal

abbrev pub invariant-loop-act : goal.invariant-loop-act
invariant-loop-act g l = length l.cells.lists ≡ l.owners
