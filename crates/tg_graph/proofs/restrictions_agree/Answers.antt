use Rattle.tg_graph.proofs.RestrictionLemmas.{restriction_agrees}
use Rattle.tg_graph.proofs.restrictions_agree.Goals as goal

pub returns : goal.returns
returns c = restriction_agrees
