use Rattle.std.proofs.Common.{◌-◌, ◌≤◌, length}
use Rattle.tg_wire.specs.Inner.Runs.{AsciiBetween}
use Rattle.tg_wire.proofs.ascii.ascii_long.Given as goal

abbrev pub invariant-loop-at : goal.invariant-loop-at
invariant-loop-at l = (l.at ≤ length l.bytes) × AsciiBetween l.bytes 0 l.at

abbrev pub decreases-loop-at : goal.decreases-loop-at
decreases-loop-at l = length l.bytes - l.at
