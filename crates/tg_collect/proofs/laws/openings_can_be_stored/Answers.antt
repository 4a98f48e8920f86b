use Rattle.tg_collect.proofs.OpeningLemmas.{openings_can_be_stored}
use Rattle.tg_collect.proofs.laws.openings_can_be_stored.Goals as goal

pub returns : goal.returns
returns c = openings_can_be_stored
