use Rattle.tg_graph.proofs.EachDoesLemmas.{does_so}
use Rattle.tg_graph.proofs.each_does_so.Goals as goal

pub returns : goal.returns
returns c = does_so
