use Rattle.tg_sharing.specs.Inner.Growing.{Continues}
use Rattle.tg_sharing.proofs.builder.Derivation.carry_out_all.Given as goal

abbrev pub invariant-loop-step : goal.invariant-loop-step
invariant-loop-step l = Continues l.fn.self l.self
