use Rattle.std.proofs.Common.{◌≡◌, ℕ, List, refl, ap, sym, subst, ◌∙◌, inl, inr}
use Rattle.std.specs.Map.{keys_of}
use Rattle.std.specs.Option.{is_some}
use Rattle.tg_lists.specs.Promise.Membership.{Contains}
use Rattle.tg_rights.specs.Promise.Letters.{Letters}
use Rattle.tg_graph.specs.Promise.Protection.{label}
use Rattle.tg_sharing.proofs.LabelsLemmas.{Labels, edge_listed, entry_label}
use Rattle.tg_sharing.proofs.ProspectLemmas.{AreEdgesOf, AreToCome, come_more, edges_more, kind_vertex}
use Rattle.tg_sharing.proofs.prospect.labels_of.Goals as goal

pub loop-ends-init : goal.loop-ends-init
loop-ends-init c =
    let H = c.args.after.now in
    let from = c.args.from in
    let es = c.labels-labels.result.now.entries in
    let all = c.into_iter-ends-iterator.ensures.into_iter_gives in
    record {
      labels = λ e h. entry_label H es c.labels-labels.ensures all.6 e (subst (λ (l : Labels). Contains l e) all.0 h);
      sound = λ y α h. absurd (subst (λ (l : List (ℕ × Letters)). Contains l (y, α)) c.new-found.ensures.items h);
      whole = λ y v some. inl (subst (λ (l : Labels). Contains (keys_of l) (from, y)) (sym all.0) (edge_listed H es c.labels-labels.ensures from y some));
    }

pub loop-ends-preserved-then-not-is_empty : goal.loop-ends-preserved-then-not-is_empty
loop-ends-preserved-then-not-is_empty c =
    let G = c.args.graph.now in
    let H = c.args.after.now in
    let from = c.args.from in
    let x = c.in-Some.ends.now.0 in
    let y = c.in-Some.ends.now.1 in
    let l = c.in-Some.label.now in
    let found = c.loop-ends.found.items in
    let rest = c.next.new.self in
    let steps = c.in-Some.ensures.steps in
    let is : l ≡ label H x y = c.loop-ends.invariant.labels ((x, y), l) (subst (λ (k : Labels). Contains k ((x, y), l)) (sym steps) (inl refl)) in
    record {
      labels = λ e h. c.loop-ends.invariant.labels e (subst (λ (k : Labels). Contains k e) (sym steps) (inr h));
      sound = subst (AreEdgesOf G H from) (sym c.in_ok-push.ensures.items)
          (edges_more G H from x y l found c.if-ends-from.true is (kind_vertex G y (ap is_some (sym c.kind.ensures) ∙ sym c.is_some.ensures ∙ c.if-is_some.true)) (sym c.is_empty.ensures ∙ c.if-not-is_empty.true) c.loop-ends.invariant.sound);
      whole = subst (AreToCome G H from rest) (sym c.in_ok-push.ensures.items)
          (come_more G H from x y l found c.if-ends-from.true is rest (subst (λ (k : Labels). AreToCome G H from k found) steps c.loop-ends.invariant.whole));
    }
