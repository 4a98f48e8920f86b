use Rattle.std.proofs.Common.{rules}
use Rattle.std.proofs.lemmas.Fn.{filter_same}
use Rattle.tg_graph.specs.Inner.Restricting.{is_vertex_in}
use Rattle.tg_graph.proofs.restricting.keep_retired.Goals as goal

pub returns : goal.returns
returns c = filter_same _ (λ x. is_vertex_in c.args.vertices.now.entries x) _ (λ x b f' k. search rules) _ _ c.retain.ensures.filtered
