use Rattle.tg_graph.proofs.RestrictionLemmas.{restriction_replies}
use Rattle.tg_graph.proofs.restrictions_reply.Goals as goal

pub returns : goal.returns
returns c = λ limits G H x c o in_G in_H r s p. restriction_replies G H r in_G in_H x s limits c o p
