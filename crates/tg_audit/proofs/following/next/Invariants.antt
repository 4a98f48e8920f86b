use Rattle.std.proofs.Common.{◌≡◌, drop}
use Rattle.tg_audit.specs.Inner.Following.{joined_from, left_of}
use Rattle.tg_audit.proofs.following.next.Given as goal

abbrev pub invariant-loop-number : goal.invariant-loop-number
invariant-loop-number l = left_of l.seat l.logs l.fn.from ≡ joined_from l.seat l.at (drop l.number l.logs)
