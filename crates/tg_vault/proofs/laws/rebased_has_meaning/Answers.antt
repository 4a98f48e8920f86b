use Rattle.tg_vault.proofs.MeaningsLemmas.{rebased_means}
use Rattle.tg_vault.proofs.laws.rebased_has_meaning.Goals as goal

pub returns : goal.returns
returns c = rebased_means
