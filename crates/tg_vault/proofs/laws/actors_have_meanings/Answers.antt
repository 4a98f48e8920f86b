use Rattle.tg_vault.proofs.MeaningsLemmas.{actors_mean}
use Rattle.tg_vault.proofs.laws.actors_have_meanings.Goals as goal

pub returns : goal.returns
returns c = actors_mean
