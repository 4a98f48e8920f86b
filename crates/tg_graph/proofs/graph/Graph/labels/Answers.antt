use Rattle.std.proofs.Common.{ap, sym}
use Rattle.tg_graph.proofs.ViewsLemmas.{label-shown}
use Rattle.tg_graph.proofs.graph.Graph.labels.Goals as goal

pub returns : goal.returns
returns c = λ x y. sym (label-shown c.args.self.now c.self.inside.labels.entries x y (ap (λ G. G.triples) (sym c.self.view_is)))
