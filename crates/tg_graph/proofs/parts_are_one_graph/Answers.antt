use Rattle.tg_graph.proofs.PartsLemmas.{one_graph}
use Rattle.tg_graph.proofs.parts_are_one_graph.Goals as goal

pub returns : goal.returns
returns c = one_graph
