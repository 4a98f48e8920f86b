use Rattle.tg_vault.proofs.MeaningsLemmas.{answers_mean}
use Rattle.tg_vault.proofs.laws.answers_have_meanings.Goals as goal

pub returns : goal.returns
returns c = answers_mean
