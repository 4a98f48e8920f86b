use Rattle.tg_graph.proofs.AllowedIsMetLemmas.{meets, allowed}
use Rattle.tg_graph.proofs.allowed_is_met.Goals as goal

pub returns : goal.returns
returns c = λ G x c. (meets G x c, allowed G x c)
