use Rattle.std.proofs.Common.{◌≡◌}
use Rattle.std.specs.Option.{option_to_list}
use Rattle.tg_collect.specs.Promise.Readings.{place}
use Rattle.tg_collect.specs.Inner.Stored.{stored}
use Rattle.tg_collect.proofs.FoundLemmas.{gathered}
use Rattle.tg_collect.proofs.machine.Machine.serials.Given as goal

-- What the slots so far hold.
abbrev pub invariant-loop-slot : goal.invariant-loop-slot
invariant-loop-slot l = l.found.items ≡ gathered (λ i. option_to_list (place (stored l.self) i)) l.slot
