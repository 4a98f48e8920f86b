use Rattle.tg_graph.proofs.RewritingLemmas.{carry_over}
use Rattle.tg_graph.proofs.derivations_carry_over.Goals as goal

pub returns : goal.returns
returns c = carry_over
