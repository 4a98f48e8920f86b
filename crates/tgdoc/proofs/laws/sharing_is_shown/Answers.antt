use Rattle.tgdoc.proofs.MeaningsLemmas.{sharing_is_shown}
use Rattle.tgdoc.proofs.laws.sharing_is_shown.Goals as goal

pub returns : goal.returns
returns c = sharing_is_shown
