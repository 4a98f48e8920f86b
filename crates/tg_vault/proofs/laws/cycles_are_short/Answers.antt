use Rattle.tg_vault.proofs.MeaningsLemmas.{cycles_are_short}
use Rattle.tg_vault.proofs.laws.cycles_are_short.Goals as goal

pub returns : goal.returns
returns c = cycles_are_short
