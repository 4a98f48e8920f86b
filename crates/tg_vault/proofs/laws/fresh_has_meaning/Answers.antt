use Rattle.tg_vault.proofs.MeaningsLemmas.{fresh_means}
use Rattle.tg_vault.proofs.laws.fresh_has_meaning.Goals as goal

pub returns : goal.returns
returns c = fresh_means
