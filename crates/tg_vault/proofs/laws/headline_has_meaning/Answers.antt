use Rattle.tg_vault.proofs.MeaningsLemmas.{headline_means}
use Rattle.tg_vault.proofs.laws.headline_has_meaning.Goals as goal

pub returns : goal.returns
returns c = headline_means c.each_is_allowed_so.ensures c.each_does_so.ensures
