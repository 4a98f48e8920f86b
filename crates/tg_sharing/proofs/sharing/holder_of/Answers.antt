use Rattle.std.proofs.Common.{sym, subst}
use Rattle.std.specs.Map.{keys_of}
use Rattle.tg_lists.specs.Promise.Membership.{Contains}
use Rattle.tg_sharing.proofs.GrowingLemmas.{held_edge}
use Rattle.tg_sharing.proofs.LabelsLemmas.{Labels, edge_listed}
use Rattle.tg_sharing.proofs.sharing.holder_of.Goals as goal

pub loop-ends-init : goal.loop-ends-init
loop-ends-init c =
    let G = c.args.graph.now in
    let to = c.args.to in
    λ u h. subst (λ (l : Labels). Contains (keys_of l) (u, to)) (sym c.into_iter-ends-iterator.ensures.into_iter_gives.0)
    (edge_listed G c.labels-labels.result.now.entries c.labels-labels.ensures u to (held_edge G u c.args.right to c.requires.some h.0))
