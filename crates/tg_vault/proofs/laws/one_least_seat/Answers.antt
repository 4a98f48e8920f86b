use Rattle.tg_vault.proofs.MeaningsLemmas.{one_least}
use Rattle.tg_vault.proofs.laws.one_least_seat.Goals as goal

pub returns : goal.returns
returns c = one_least
