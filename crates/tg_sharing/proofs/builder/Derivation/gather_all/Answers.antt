use Rattle.std.proofs.Common.{sym, subst, inl}
use Rattle.std.specs.Map.{keys_of}
use Rattle.tg_lists.specs.Promise.Membership.{Contains}
use Rattle.tg_sharing.proofs.GrowingLemmas.{Continues-refl}
use Rattle.tg_sharing.proofs.LabelsLemmas.{Labels, edge_listed, entry_label}
use Rattle.tg_sharing.proofs.builder.Derivation.gather_all.Goals as goal

pub loop-ends-init : goal.loop-ends-init
loop-ends-init c =
    let G = c.args.graph.now in
    let es = c.labels-labels.result.now.entries in
    let all = c.into_iter-ends-iterator.ensures.into_iter_gives in
    record {
      continues = Continues-refl c.args.self.now;
      labels = λ e h. entry_label G es c.labels-labels.ensures all.6 e (subst (λ (l : Labels). Contains l e) all.0 h);
      gathered = λ u y some. inl (subst (λ (l : Labels). Contains (keys_of l) (u, y)) (sym all.0) (edge_listed G es c.labels-labels.ensures u y some));
    }
