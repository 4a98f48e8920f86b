use Rattle.tgdoc.proofs.MeaningsLemmas.{pictures_count}
use Rattle.tgdoc.proofs.laws.pictures_count.Goals as goal

pub returns : goal.returns
returns c = pictures_count
