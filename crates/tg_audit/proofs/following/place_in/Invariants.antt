use Rattle.std.proofs.Common.{ℕ, ◌<◌}
use Rattle.tg_audit.specs.Promise.Settling.{Agrees}
use Rattle.tg_audit.proofs.following.place_in.Given as goal

abbrev pub invariant-loop-seat : goal.invariant-loop-seat
invariant-loop-seat l = (k : ℕ) → k < l.seat → Agrees l.vault l.logs k
