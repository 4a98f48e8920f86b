use Rattle.tg_graph.proofs.SameReplyLemmas.{denials_are_the_same}
use Rattle.tg_graph.proofs.denials_are_the_same.Goals as goal

pub returns : goal.returns
returns c = denials_are_the_same
