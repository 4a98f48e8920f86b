use Rattle.std.proofs.Common.{◌≡◌}
use Rattle.std.specs.Option.{option_to_list}
use Rattle.tg_collect.specs.Inner.Parts.{listed_at}
use Rattle.tg_collect.specs.Inner.Stored.{stored}
use Rattle.tg_collect.proofs.FoundLemmas.{gathered}
use Rattle.tg_collect.proofs.machine.Machine.vertices.Given as goal

-- What the slots so far hold.
abbrev pub invariant-loop-id : goal.invariant-loop-id
invariant-loop-id l = l.found.items ≡ gathered (λ i. option_to_list (listed_at (stored l.self) i)) l.id
