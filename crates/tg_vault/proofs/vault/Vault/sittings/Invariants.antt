use Rattle.std.proofs.Common.{◌≡◌}
use Rattle.tg_vault.specs.Promise.Scenes.{sittings_below}
use Rattle.tg_vault.proofs.vault.Vault.sittings.Given as goal

-- the seats so far
abbrev pub invariant-loop-seat : goal.invariant-loop-seat
invariant-loop-seat l = l.found.items ≡ sittings_below l.self l.seat
