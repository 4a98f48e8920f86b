use Rattle.tg_graph.proofs.AssumesAndLeavesLemmas.{assumes_and_leaves}
use Rattle.tg_graph.proofs.agents_are_assumed_and_left.Goals as goal

pub returns : goal.returns
returns c = assumes_and_leaves
