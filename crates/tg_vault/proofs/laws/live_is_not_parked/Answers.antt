use Rattle.tg_vault.proofs.MeaningsLemmas.{live_is_not_parked}
use Rattle.tg_vault.proofs.laws.live_is_not_parked.Goals as goal

pub returns : goal.returns
returns c = live_is_not_parked
