use Rattle.tg_vault.proofs.MeaningsLemmas.{full_means}
use Rattle.tg_vault.proofs.laws.full_has_meaning.Goals as goal

pub returns : goal.returns
returns c = full_means
