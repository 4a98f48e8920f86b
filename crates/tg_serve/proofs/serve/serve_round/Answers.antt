use Rattle.std.proofs.Common.{refl}
use Rattle.tg_serve.specs.Promise.Serving.{by_closing, by_refusal}
use Rattle.tg_serve.proofs.RoundsLemmas.{closing_agrees, closing_ends, closing_hands}
use Rattle.tg_serve.proofs.serve.serve_round.Goals as goal

pub returns-in-Some-clause-found : goal.returns-in-Some-clause-found
returns-in-Some-clause-found g c = by_closing c.in-Some.ended.items c.close_with_graph-closed.result.0 c.close_with_graph-closed.ensures.closed c.found_in.ensures

pub returns-in-Some-clause-agreed : goal.returns-in-Some-clause-agreed
returns-in-Some-clause-agreed g c = rw c.found_in.ensures (closing_agrees c.in-Some.ended.items c.close_with_graph-closed.result.0 c.close_with_graph-closed.ensures.closed)

pub returns-in-Some-clause-ended : goal.returns-in-Some-clause-ended
returns-in-Some-clause-ended g c = rw c.found_in.ensures (closing_ends c.in-Some.ended.items c.close_with_graph-closed.result.0 c.close_with_graph-closed.ensures.closed)

pub returns-in-None-clause-found : goal.returns-in-None-clause-found
returns-in-None-clause-found g c = by_refusal refl

pub returns-in-Some-clause-graph : goal.returns-in-Some-clause-graph
returns-in-Some-clause-graph g c = rw c.found_in.ensures (closing_hands c.close_with_graph-closed.result.0 c.close_with_graph-closed.result.2 c.close_with_graph-closed.ensures.graph)
