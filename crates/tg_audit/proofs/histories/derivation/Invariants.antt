use Rattle.std.proofs.Common.{◌≡◌, take}
use Rattle.tg_audit.specs.Promise.Derived.{derivation_of}
use Rattle.tg_audit.proofs.histories.derivation.Given as goal

abbrev pub invariant-loop-number : goal.invariant-loop-number
invariant-loop-number l = record { derived : l.steps.items ≡ derivation_of (take l.number l.vault.history) }
