use Rattle.std.proofs.Common.{◌≡◌}
use Rattle.tg_tests.proofs.index.play_all.Given as goal

abbrev pub invariant-loop-act : goal.invariant-loop-act
invariant-loop-act g l = (l.index.used ≡ l.used) × (l.index.size ≡ 8)
