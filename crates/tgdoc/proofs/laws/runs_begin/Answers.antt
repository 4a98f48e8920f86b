use Rattle.tgdoc.proofs.MeaningsLemmas.{runs_begin}
use Rattle.tgdoc.proofs.laws.runs_begin.Goals as goal

pub returns : goal.returns
returns c = runs_begin
