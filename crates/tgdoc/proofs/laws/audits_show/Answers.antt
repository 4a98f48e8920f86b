use Rattle.tgdoc.proofs.MeaningsLemmas.{audits_show}
use Rattle.tgdoc.proofs.laws.audits_show.Goals as goal

pub returns : goal.returns
returns c = audits_show
