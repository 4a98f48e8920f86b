use Rattle.std.proofs.Common.{take}
use Rattle.tg_audit.specs.Inner.Following.{IsLeastAbove}
use Rattle.tg_audit.proofs.following.least_above.Given as goal

abbrev pub invariant-loop-log : goal.invariant-loop-log
invariant-loop-log l = IsLeastAbove (take l.log-index l.logs) l.least
