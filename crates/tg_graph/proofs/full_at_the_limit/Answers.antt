use Rattle.tg_graph.proofs.EachCommandLemmas.{full_at_the_limit}
use Rattle.tg_graph.proofs.full_at_the_limit.Goals as goal

pub returns : goal.returns
returns c = full_at_the_limit
