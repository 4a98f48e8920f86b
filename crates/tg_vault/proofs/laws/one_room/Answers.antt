use Rattle.tg_vault.proofs.MeaningsLemmas.{one_room}
use Rattle.tg_vault.proofs.laws.one_room.Goals as goal

pub returns : goal.returns
returns c = one_room
