use Rattle.std.proofs.Common.{◌-◌, ◌≤◌, length}
use Rattle.tg_wire.proofs.LexemesLemmas.{ReadsOn}
use Rattle.tg_wire.proofs.decoded.decode.Given as goal

abbrev pub invariant-loop-letter : goal.invariant-loop-letter
invariant-loop-letter l = ReadsOn l.bytes l.from l.at l.text.items × (l.from ≤ l.at) × (l.at ≤ length l.bytes)

abbrev pub decreases-loop-letter : goal.decreases-loop-letter
decreases-loop-letter l = length l.bytes - l.at
