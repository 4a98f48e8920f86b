use Rattle.std.proofs.Common.{◌≡◌, ◌+◌, ◌*◌, ◌≤◌, drop, length, true}
use Rattle.tg_wire.specs.Inner.Told.{edges_text}
use Rattle.tg_wire.proofs.edges.edges_before.Given as goal

-- those from here on are written
abbrev pub invariant-loop-at : goal.invariant-loop-at
invariant-loop-at l =
    (l.at ≤ length l.few) × (30 * l.at ≤ l.start) × (l.start + length l.few ≤ length l.room + l.at) × (length l.room ≡ length l.fn.room) × (drop l.start l.room ≡ edges_text true (drop l.at l.few))

abbrev pub decreases-loop-at : goal.decreases-loop-at
decreases-loop-at l = l.at
