use Rattle.std.proofs.Common.{◌≡◌, drop}
use Rattle.tg_graph.specs.Promise.Protection.{serial_of}
use Rattle.tg_graph.proofs.member.serial_of.Given as goal

abbrev pub invariant-loop-member : goal.invariant-loop-member
invariant-loop-member l = serial_of (drop l.member-index l.members) l.name ≡ serial_of l.members l.name
