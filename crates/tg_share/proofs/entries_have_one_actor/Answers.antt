use Rattle.tg_share.proofs.EnteredLemmas.{one_actor}
use Rattle.tg_share.proofs.entries_have_one_actor.Goals as goal

pub returns : goal.returns
returns c = one_actor
