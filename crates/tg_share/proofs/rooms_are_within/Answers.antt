use Rattle.tg_share.proofs.MeaningsLemmas.{rooms_are_within}
use Rattle.tg_share.proofs.rooms_are_within.Goals as goal

pub returns : goal.returns
returns c = rooms_are_within c.courses_have_the_headline.ensures
