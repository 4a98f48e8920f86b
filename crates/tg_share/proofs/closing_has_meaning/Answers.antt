use Rattle.tg_share.proofs.MeaningsLemmas.{closing_means}
use Rattle.tg_share.proofs.closing_has_meaning.Goals as goal

pub returns : goal.returns
returns c = closing_means
