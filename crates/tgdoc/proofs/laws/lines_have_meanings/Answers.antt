use Rattle.tgdoc.proofs.MeaningsLemmas.{lines_mean}
use Rattle.tgdoc.proofs.laws.lines_have_meanings.Goals as goal

pub returns : goal.returns
returns c = lines_mean
