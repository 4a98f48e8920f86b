use Rattle.std.specs.Prelude.{◌≡◌, []}
use Rattle.std.specs.List.Sorted.{IsPermutation}
use Rattle.tg_collect.specs.Inner.Figures.{arrows}
use Rattle.tg_collect.specs.Inner.Stored.{stored}
use Rattle.tg_collect.proofs.FoundLemmas.{gathered}
use Rattle.tg_collect.proofs.machine.Machine.arrows.Given as goal

-- The edges of the slots so far, in some order.
abbrev pub invariant-loop-slot : goal.invariant-loop-slot
invariant-loop-slot l = (l.few.items ≡ []) × IsPermutation (gathered (arrows (stored l.self) l.with_parked) l.slot) l.found.items
