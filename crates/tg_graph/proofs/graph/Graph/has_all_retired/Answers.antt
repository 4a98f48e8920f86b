use Rattle.std.proofs.Common.{◌≡◌, ℕ, List, Bool, true, ◌||◌, inl, inr, ap, sym, subst, refl, ◌∙◌}
use Rattle.std.proofs.lemmas.Bool.{eqb-true, eq-eqb, false≢true, or_cases, or_right}
use Rattle.std.specs.Cmp.{nat_cmp_total, unsigned_tied}
use Rattle.std.specs.FinSet as set
use Rattle.std.specs.List.{list_any}
use Rattle.std.specs.Option.{is_some}
use Rattle.std.specs.Ordering.{eq_by_cmp, nat_cmp}
use Rattle.tg_graph.specs.Promise.Protection.{Protection, IsVertex, has_retired}
use Rattle.tg_graph.proofs.ViewsLemmas.{vertex-shown}
use Rattle.tg_graph.proofs.graph.Graph.has_all_retired.Goals as goal

-- whether the number is among these
abbrev among : ℕ → List ℕ → Bool
among v = list_any (eq_by_cmp nat_cmp v)

-- who has retired is a key of the set
gone : (G : Protection) (keys : List ℕ) (v : ℕ) → G.retired ≡ set.from_list keys → has_retired G v ≡ among v keys
gone G keys v is = ap (λ s. set.contains s v) is ∙ set.contains-from_list nat_cmp_total keys v

pub loop-serial-init : goal.loop-serial-init
loop-serial-init c =
    let retired = ap (λ (G : Protection). G.retired) (sym c.self.view_is) in record {
      were = λ v e. gone c.args.self.now c.self.inside.retired.keys v retired ∙ ap (among v) (sym c.into_iter-serial-iterator.ensures.into_iter_gives.0) ∙ e;
      seen = λ v t. inr (ap (among v) c.into_iter-serial-iterator.ensures.into_iter_gives.0 ∙ sym (gone c.args.self.now c.self.inside.retired.keys v retired) ∙ t);
    }

pub returns-then-not-contains_key : goal.returns-then-not-contains_key
returns-then-not-contains_key c =
    let x = c.in-Some.serial.now in
    let first : among x c.loop-serial.serial-iterator ≡ true = ap (among x) c.in-Some.ensures.steps ∙ ap (λ b. b || among x c.next.new.self) (unsigned_tied x x ∙ eq-eqb x x refl) in
    let shown = vertex-shown c.args.self.now c.self.inside.vertices.entries x (ap (λ (G : Protection). G.vertices) (sym c.self.view_is)) in
    (λ e. absurd (false≢true e), λ all. absurd (false≢true (sym c.if-not-contains_key.true ∙ c.contains_key.ensures ∙ ap is_some (sym shown) ∙ all x (c.loop-serial.invariant.were x first))))

pub loop-serial-preserved : goal.loop-serial-preserved
loop-serial-preserved c =
    let x = c.in-Some.serial.now in
    let G = c.args.self.now in
    let steps = c.in-Some.ensures.steps in
    let shown = vertex-shown G c.self.inside.vertices.entries x (ap (λ (G : Protection). G.vertices) (sym c.self.view_is)) in
    let there : IsVertex G x = ap is_some shown ∙ sym c.contains_key.ensures ∙ c.if-not-contains_key.false in
    record {
      were = λ v e. c.loop-serial.invariant.were v (ap (among v) steps ∙ or_right _ _ e);
      seen = λ v t. elim (c.loop-serial.invariant.seen v t) [
        | inl is ↦ inl is
        | inr later ↦ elim (or_cases _ _ (sym (ap (among v) steps) ∙ later)) [
          | inl same ↦ inl (subst (IsVertex G) (sym (eqb-true v x (sym (unsigned_tied v x) ∙ same))) there)
          | inr rest ↦ inr rest
        ]
      ];
    }
