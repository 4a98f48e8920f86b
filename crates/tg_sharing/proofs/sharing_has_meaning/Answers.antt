use Rattle.tg_sharing.proofs.MeaningsLemmas.{sharing_means}
use Rattle.tg_sharing.proofs.sharing_has_meaning.Goals as goal

pub returns : goal.returns
returns c = sharing_means
