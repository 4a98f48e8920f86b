use Rattle.std.proofs.Common.{◌≡◌, ℕ, ◌<◌, None}
use Rattle.tg_vault.specs.Promise.World.{at_seat}
use Rattle.tg_vault.proofs.seats.first_in_use.Given as goal

abbrev pub invariant-loop-seat : goal.invariant-loop-seat
invariant-loop-seat l = (k : ℕ) → k < l.seat → at_seat l.table k ≡ None
