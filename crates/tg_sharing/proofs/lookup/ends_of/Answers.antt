use Rattle.std.proofs.Common.{◌≡◌, ℕ, List, [], true, refl, ap, sym, subst, ◌∙◌, inl, inr}
use Rattle.std.specs.List.{list_any}
use Rattle.std.specs.Map.{keys_of}
use Rattle.std.specs.Ordering.{eq_by_cmp, nat_cmp}
use Rattle.tg_lists.specs.Promise.Membership.{Contains}
use Rattle.tg_rights.specs.Promise.Letters.{is_none}
use Rattle.tg_graph.specs.Promise.Protection.{IsEdge, IsVertex, label}
use Rattle.tg_graph.proofs.ProtectionLemmas.{edge_from, edge_to}
use Rattle.tg_sharing.proofs.LabelsLemmas.{Labels, edge_listed, entry_label}
use Rattle.tg_sharing.proofs.LookupLemmas.{comes_in, contains_in, in_contains, put_in, stays_in}
use Rattle.tg_sharing.proofs.lookup.ends_of.Goals as goal

abbrev IsIn : ℕ → List ℕ → Type 0
IsIn q ks = list_any (eq_by_cmp nat_cmp q) ks ≡ true

pub loop-pair-init : goal.loop-pair-init
loop-pair-init c =
    let G = c.args.graph.now in
    let es = c.labels-labels.result.now.entries in
    let all = c.into_iter-pair-iterator.ensures.into_iter_gives in
    record {
      labels = λ e h. entry_label G es c.labels-labels.ensures all.6 e (subst (λ (l : Labels). Contains l e) all.0 h);
      there = λ v h. absurd (cc (subst (λ (l : List ℕ). list_any (eq_by_cmp nat_cmp v) l ≡ true) c.new-ends.ensures.empty h));
      whole = λ x y some. inl (subst (λ (l : Labels). Contains (keys_of l) (x, y)) (sym all.0) (edge_listed G es c.labels-labels.ensures x y some));
    }

pub loop-pair-preserved-in_ok-insert-2 : goal.loop-pair-preserved-in_ok-insert-2
loop-pair-preserved-in_ok-insert-2 c =
    let G = c.args.graph.now in
    let g = c.soundness.ensures in
    let x = c.in-Some.pair.now.0 in
    let y = c.in-Some.pair.now.1 in
    let l = c.in-Some.label.now in
    let steps = c.in-Some.ensures.steps in
    let before : List ℕ = c.loop-pair.ends.keys in
    let once : List ℕ = c.insert.new.self.keys in
    let twice : List ℕ = c.insert-then-not-is_empty.new.self.keys in
    let first = c.in_ok-insert.ensures.updates.0 in
    let second = c.in_ok-insert-2.ensures.updates.0 in
    let is : l ≡ label G x y = c.loop-pair.invariant.labels ((x, y), l) (subst (λ (k : Labels). Contains k ((x, y), l)) (sym steps) (inl refl)) in
    let edge : IsEdge G x y = ap is_none (sym is) ∙ sym c.is_empty.ensures ∙ c.if-not-is_empty.true in
    let both_stay : (q : ℕ) → IsIn q before → IsIn q twice = λ q h. stays_in y q twice once (second q) (stays_in x q once before (first q) h) in
    record {
      labels = λ e h. c.loop-pair.invariant.labels e (subst (λ (k : Labels). Contains k e) (sym steps) (inr h));
      there = λ v h. elim (put_in y v twice once (second v) h) [
        | inl last ↦ subst (IsVertex G) (sym last) (edge_to G g x y edge)
        | inr old ↦ elim (put_in x v once before (first v) old) [
          | inl last ↦ subst (IsVertex G) (sym last) (edge_from G g x y edge)
          | inr older ↦ c.loop-pair.invariant.there v older
        ]
      ];
      whole = λ u v some. elim (c.loop-pair.invariant.whole u v some) [
        | inl left ↦ elim (subst (λ (k : Labels). Contains (keys_of k) (u, v)) steps left) [
          | inl here ↦
              let from : u ≡ x = ap (λ (p : ℕ × ℕ). p.0) here in
              let to : v ≡ y = ap (λ (p : ℕ × ℕ). p.1) here in
              inr (
                subst (λ (q : ℕ). IsIn q twice) (sym from) (stays_in y x twice once (second x) (comes_in x once before (first x))),
                subst (λ (q : ℕ). IsIn q twice) (sym to) (comes_in y twice once (second y)),
              )
          | inr later ↦ inl later
        ]
        | inr both ↦ inr (both_stay u both.0, both_stay v both.1)
      ];
    }

pub returns : goal.returns
returns c = record {
  there = λ v h. c.loop-pair.invariant.there v (contains_in v c.loop-pair.ends.keys h);
  whole = λ x y some. elim (c.loop-pair.invariant.whole x y some) [
    | inl left ↦ absurd (subst (λ (k : Labels). Contains (keys_of k) (x, y)) c.in-None.ensures.steps.0 left)
    | inr both ↦ (in_contains x c.loop-pair.ends.keys both.0, in_contains y c.loop-pair.ends.keys both.1)
  ];
}
