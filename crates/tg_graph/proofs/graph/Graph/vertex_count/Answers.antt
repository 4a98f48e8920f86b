use Rattle.std.proofs.Common.{ap, sym, ◌∙◌}
use Rattle.tg_graph.proofs.FullnessLemmas.{vertex_count-shown}
use Rattle.tg_graph.proofs.graph.Graph.vertex_count.Goals as goal

pub returns : goal.returns
returns c = c.len.ensures.len ∙ sym (vertex_count-shown c.args.self.now c.self.inside.vertices.entries (ap (λ G. G.vertices) (sym c.self.view_is)) c.len.ensures.ordered)
