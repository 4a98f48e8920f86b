use Rattle.tgdoc.proofs.MeaningsLemmas.{words_mean}
use Rattle.tgdoc.proofs.laws.words_have_meanings.Goals as goal

pub returns : goal.returns
returns c = words_mean
