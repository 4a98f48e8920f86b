use Rattle.std.proofs.Common.{ap, sym, ◌∙◌}
use Rattle.std.specs.Cmp.{nat_cmp_total}
use Rattle.std.specs.FinSet as set
use Rattle.tg_graph.specs.Promise.Protection.{Protection, has_retired}
use Rattle.tg_graph.proofs.graph.Graph.retired.Goals as goal

pub returns : goal.returns
returns c =
    c.contains.ensures ∙ sym (set.contains-from_list nat_cmp_total c.self.inside.retired.keys c.args.vertex)
    ∙ ap (λ (G : Protection). has_retired G c.args.vertex) c.self.view_is
