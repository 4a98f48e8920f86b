use Rattle.tg_vault.proofs.MeaningsLemmas.{eight_steps}
use Rattle.tg_vault.proofs.laws.eight_steps_are_enough.Goals as goal

pub returns : goal.returns
returns c = eight_steps
