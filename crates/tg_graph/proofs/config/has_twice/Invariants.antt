use Rattle.std.proofs.Common.{◌≡◌, length}
use Rattle.tg_graph.specs.Promise.Opening.{has_twice}
use Rattle.tg_graph.proofs.config.has_twice.Given as goal

abbrev pub invariant-loop-left : goal.invariant-loop-left
invariant-loop-left g l = has_twice g.T.Alike.alike l.left ≡ has_twice g.T.Alike.alike l.items

abbrev pub decreases-loop-left : goal.decreases-loop-left
decreases-loop-left g l = length l.left
