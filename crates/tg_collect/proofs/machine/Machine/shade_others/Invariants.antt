use Rattle.std.proofs.Common.{◌≤◌, length}
use Rattle.tg_collect.specs.Inner.Machine.{other_slots}
use Rattle.tg_collect.proofs.SlotLemmas.{ShadedFrom}
use Rattle.tg_collect.proofs.machine.Machine.shade_others.Given as goal

abbrev pub invariant-loop-left : goal.invariant-loop-left
invariant-loop-left l = record { from : ShadedFrom l.fn.self l.self l.left; within : l.left ≤ length (other_slots l.fn.self.roots) }

abbrev pub decreases-loop-left : goal.decreases-loop-left
decreases-loop-left l = l.left
