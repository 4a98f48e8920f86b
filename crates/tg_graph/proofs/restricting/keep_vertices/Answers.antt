use Rattle.std.proofs.Common.{rules}
use Rattle.std.specs.Ordering.{nat_cmp}
use Rattle.tg_graph.specs.contracts.restricting.fn.keep_vertices.retain as closure
use Rattle.tg_graph.proofs.RestrictingLemmas.{keys_rise, serial_up, walked}
use Rattle.tg_graph.proofs.restricting.keep_vertices.Goals as goal

pub returns : goal.returns
returns c =
    walked _ (λ f. (closure.captures f).left.now) (λ k. k) (λ f k v b w g t. search rules) _ _ _ c.requires
    (keys_rise nat_cmp (λ k. k) serial_up _ c.retain.ensures.was_ordered) c.retain.ensures.filtered
