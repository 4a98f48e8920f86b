use Rattle.std.proofs.Common.{refl}
use Rattle.tg_marking.proofs.LeftLemmas.{bounded, never_raises, counted}
use Rattle.tg_marking.proofs.cycles_are_bounded.Goals as goal

pub returns : goal.returns
returns c = record { lower = bounded; no_higher = never_raises; counted = counted; numbers = (refl, refl) }
