use Rattle.std.proofs.Common.{rules}
use Rattle.tg_graph.specs.Promise.Views.{pair_cmp}
use Rattle.tg_graph.specs.contracts.restricting.fn.keep_labels.retain as closure
use Rattle.tg_graph.proofs.RestrictingLemmas.{ends_up, keys_rise, walked}
use Rattle.tg_graph.proofs.restricting.keep_labels.Goals as goal

pub returns : goal.returns
returns c =
    walked _ (λ f. (closure.captures f).left.now) (λ k. k.0) (λ f k v b w g t. search rules) _ _ _ c.requires
    (keys_rise pair_cmp (λ k. k.0) ends_up _ c.retain.ensures.was_ordered) c.retain.ensures.filtered
