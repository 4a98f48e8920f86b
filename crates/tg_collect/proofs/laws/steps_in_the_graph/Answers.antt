use Rattle.tg_collect.proofs.InGraphLemmas.{acts_in_graph, collects_in_graph, opens_in_graph, shades_in_graph, stores_are_in_graph}
use Rattle.tg_collect.proofs.laws.steps_in_the_graph.Goals as goal

pub returns-clause-stores : goal.returns-clause-stores
returns-clause-stores c = stores_are_in_graph

pub returns-clause-opens : goal.returns-clause-opens
returns-clause-opens c = opens_in_graph

pub returns-clause-collects : goal.returns-clause-collects
returns-clause-collects c = collects_in_graph

pub returns-clause-acts : goal.returns-clause-acts
returns-clause-acts c = acts_in_graph

pub returns-clause-shades : goal.returns-clause-shades
returns-clause-shades c = shades_in_graph
