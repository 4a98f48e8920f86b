use Rattle.std.proofs.Common.{◌≡◌, ◌≤◌, ◌-◌, length, replicate, None}
use Rattle.tg_collect.proofs.opening.empty_seats.Given as goal

-- None of the seats so far has a target.
abbrev pub invariant-loop-seats : goal.invariant-loop-seats
invariant-loop-seats l = record { few : length l.seats.items ≤ 64; idle : l.seats.items ≡ replicate (length l.seats.items) None }

abbrev pub decreases-loop-seats : goal.decreases-loop-seats
decreases-loop-seats l = 64 - length l.seats.items
