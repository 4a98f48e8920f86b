use Rattle.tg_graph.proofs.RestrictionLemmas.{restriction_permits}
use Rattle.tg_graph.proofs.restrictions_permit.Goals as goal

pub returns : goal.returns
returns c = λ limits G H x c o in_G in_H r s p. restriction_permits G H r in_G in_H x s limits c o p
