use Rattle.tg_graph.proofs.rules.decide.Goals as goal

pub spot-requires : goal.spot-requires
spot-requires g c = c.in_ok-found.ensures.found c.in-Some.vertex (c.asked_of-asked.ensures.near c.in-Some.vertex c.in-Some.kind c.in-Some.is)
