use Rattle.std.proofs.Common.{◌≡◌, ℕ, sym, subst, inl, inr, arith}
use Rattle.std.specs.Map.{keys_of}
use Rattle.tg_lists.specs.Promise.Membership.{Contains}
use Rattle.tg_sharing.specs.Inner.Marking.{ArePairClosed, size}
use Rattle.tg_sharing.proofs.LabelsLemmas.{Labels, edge_listed, entry_label}
use Rattle.tg_sharing.proofs.MarkingLemmas.{Goes-refl, Goes-trans, pair_before}
use Rattle.tg_sharing.proofs.marks.Marks.follow_each.Goals as goal

pub loop-ends-init : goal.loop-ends-init
loop-ends-init c =
    let G = c.args.graph.now in
    let m = c.args.self.now in
    let es = c.labels-labels.result.now.entries in
    let all = c.into_iter-ends-iterator.ensures.into_iter_gives in
    record {
      goes = Goes-refl G m;
      marks = c.requires;
      known = c.marked.ensures;
      labels = λ e h. entry_label G es c.labels-labels.ensures all.6 e (subst (λ (l : Labels). Contains l e) all.0 h);
      closed = λ _ x y some. inl (subst (λ (l : Labels). Contains (keys_of l) (x, y)) (sym all.0) (edge_listed G es c.labels-labels.ensures x y some));
    }

pub loop-ends-preserved : goal.loop-ends-preserved
loop-ends-preserved c =
    let G = c.args.graph.now in
    let m = c.args.self.now in
    let n = c.loop-ends.self in
    let o = c.follow_on.new.self in
    let rest = c.next.new.self in
    let before = c.loop-ends.invariant.goes in
    let step = c.in_ok-known.ensures.goes in
    record {
      goes = Goes-trans G m n o before step;
      marks = step.marks c.loop-ends.invariant.marks;
      known = c.in_ok-known.ensures.known;
      labels = λ e h. c.loop-ends.invariant.labels e (subst (λ (l : Labels). Contains l e) (sym c.in-Some.ensures.steps) (inr h));
      closed = λ same x y some.
          let first : size m ≡ size n = omega (arith, same, before.extends.grows, step.extends.grows) in
          let second : size n ≡ size o = omega (arith, same, before.extends.grows, step.extends.grows) in
          let here = pair_before m n before.extends first G _ _ (c.in_ok-known.ensures.closed second) in
          elim (c.loop-ends.invariant.closed first x y some) [
            | inl left ↦ elim (subst (λ (l : Labels). Contains (keys_of l) (x, y)) c.in-Some.ensures.steps left) [
              | inl is ↦ inr (subst (λ (p : ℕ × ℕ). ArePairClosed G m p.0 p.1) (sym is) here)
              | inr later ↦ inl later
            ]
            | inr closed ↦ inr closed
          ];
    }

pub returns-clause-closed : goal.returns-clause-closed
returns-clause-closed c = λ same x y some. elim (c.loop-ends.invariant.closed same x y some) [
  | inl left ↦ absurd (subst (λ (l : Labels). Contains (keys_of l) (x, y)) c.in-None.ensures.steps.0 left)
  | inr closed ↦ closed
]
