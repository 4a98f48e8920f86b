use Rattle.std.proofs.Common.{◌≢◌, ℕ, ◌<◌, get_or}
use Rattle.tg_collect.proofs.store.Store.principal.Given as goal

-- None of the principals so far has the serial.
abbrev pub invariant-loop-root : goal.invariant-loop-root
invariant-loop-root l = (k : ℕ) → k < l.root-index → (get_or l.self.roots.principals k (record { serial = 0; slot = 0 })).serial ≢ l.serial
