use Rattle.tg_graph.proofs.RestrictionLemmas.{restriction_stays}
use Rattle.tg_graph.proofs.restrictions_stay.Goals as goal

pub returns : goal.returns
returns c = λ limits G H x c o in_G in_H r s p. restriction_stays G H r in_G in_H x s limits c o p
