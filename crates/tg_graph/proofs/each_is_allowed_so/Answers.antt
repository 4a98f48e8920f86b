use Rattle.tg_graph.proofs.EachCommandLemmas.{is_allowed_so}
use Rattle.tg_graph.proofs.each_is_allowed_so.Goals as goal

pub returns : goal.returns
returns c = is_allowed_so
