use Rattle.std.proofs.Common.{◌≡◌, ◌≤◌, ◌-◌, length, replicate, None}
use Rattle.tg_vault.proofs.seats.empty_seats.Given as goal

-- nobody has one of the seats so far
abbrev pub invariant-loop-seats : goal.invariant-loop-seats
invariant-loop-seats l = record { few : length l.seats.items ≤ 64; free : l.seats.items ≡ replicate (length l.seats.items) None }

abbrev pub decreases-loop-seats : goal.decreases-loop-seats
decreases-loop-seats l = 64 - length l.seats.items
