-- What each command does, and what a denial for missing rights names.
use Rattle.std.proofs.Common.{◌≡◌, ◌≢◌, ℕ, List, [], ◌∷◌, Bool, true, false, cond, not, ◌&&◌, ◌||◌, inl, inr, refl, sym, ap, ◌∙◌, Some, None}
use Rattle.std.specs.Prelude.{Option, ◌==◌}
use Rattle.std.specs.Cmp.{nat_cmp_total, unsigned_tied}
use Rattle.std.specs.FinMap as map
use Rattle.std.specs.FinSet as set
use Rattle.std.proofs.lemmas.Bool.{eq-eqb, not-true}
use Rattle.tg_lists.specs.Promise.Membership.{Contains}
use Rattle.tg_rights.specs.Promise.Letters.{Letters, Right, has, without}
use Rattle.tg_rights.specs.declared.kind.Kind.{Kind}
use Rattle.tg_rights.specs.declared.kind.Kind.TheVariants as kind
use Rattle.tg_rights.specs.declared.command.Command.{Command}
use Rattle.tg_rights.specs.declared.outcome.Cause.{Cause}
use Rattle.tg_rights.specs.declared.outcome.Cause.TheVariants as cause
use Rattle.tg_rights.proofs.Bools.{and_both}
use Rattle.tg_rights.proofs.LettersLemmas.{are_set_operations}
use Rattle.tg_graph.specs.declared.vertex.Vertex.{Vertex}
use Rattle.tg_graph.specs.declared.rules.Need.{Need}
use Rattle.tg_graph.specs.Promise.EachCommand.{EachDoesSo}
use Rattle.tg_graph.specs.Promise.Protection.{Protection, Triple, edge, label, vertex}
use Rattle.tg_graph.specs.Promise.Rules.{Check, checks, denial, first_failure, is_met, lack, misfit, missing, unless}
use Rattle.tg_graph.specs.Promise.Terms.{terms}
use Rattle.tg_graph.proofs.TriplesLemmas.{contains-edge, triple_cmp_total}

given : (G : Protection) (u : ℕ) (α : Letters) (v : ℕ) (t : Triple) →
    set.contains (set.union G.triples (edge u α v)) t ≡ (set.contains G.triples t || ((t.from == u) && ((t.to == v) && has α t.right)))
given G u α v t = set.contains-union triple_cmp_total G.triples (edge u α v) t ∙ ap (λ b. set.contains G.triples t || b) (contains-edge u v α t)

lost : (G : Protection) (u : ℕ) (α : Letters) (v : ℕ) (t : Triple) →
    set.contains (set.difference G.triples (edge u α v)) t ≡ (set.contains G.triples t && not ((t.from == u) && ((t.to == v) && has α t.right)))
lost G u α v t = set.contains-difference triple_cmp_total G.triples (edge u α v) t ∙ ap (λ b. set.contains G.triples t && not b) (contains-edge u v α t)

made : (G : Protection) (e : Vertex) → map.get (map.insert G.vertices G.next e) G.next ≡ Some e
made G e =
    map.get-insert nat_cmp_total G.vertices G.next e G.next
    ∙ ap (λ b. cond b (Some e) (vertex G G.next)) (unsigned_tied G.next G.next ∙ eq-eqb G.next G.next refl)

-- the first check that fails is one of them
failure : (cs : List Check) (why : Cause) → first_failure cs ≡ Some why → Contains cs (Some why)
failure [] why e = absurd (cc e)
failure (None ∷ cs) why e = inr (failure cs why e)
failure (Some w ∷ cs) why e = inl (sym e)

unlike : (b : Bool) (why w : Cause) → why ≢ w → Some w ≡ unless b why → ⊥
unlike true why w other e = absurd (cc e)
unlike false why w other e = let is : w ≡ why = cc e in other (sym is)

module _ (G : Protection) (β : Letters) (y z : ℕ) where
  abbrev AreMissing : Type 0
  AreMissing = (r : Right) → has β r ≡ true → has (label G y z) r ≡ false

  abbrev Named : Cause
  Named = cause.Missing β y z

  lacked : (n : Need) → lack G n ≡ Named → AreMissing
  lacked n e r h =
      let rights : without n.rights (label G n.from n.to) ≡ β = cc e in
      let from : n.from ≡ y = cc e in
      let to : n.to ≡ z = cc e in
      let left : has (without n.rights (label G n.from n.to)) r ≡ true = ap (λ (l : Letters). has l r) rights ∙ h in
      let both = and_both (has n.rights r) (not (has (label G n.from n.to) r)) (sym (are_set_operations.difference n.rights (label G n.from n.to) r) ∙ left) in
      sym (λ i. has (label G (from i) (to i)) r) ∙ not-true (has (label G n.from n.to) r) both.1

  missed : (ns : List Need) → missing G ns ≡ Some Named → AreMissing
  missed [] e = λ r h. absurd (cc e)
  missed (n ∷ ns) e =
      elim (is_met G n) as (λ b. cond b (missing G ns) (Some (lack G n)) ≡ Some Named → AreMissing) [ true ↦ λ e. missed ns e | false ↦ λ e. (let is : lack G n ≡ Named = cc e in lacked n is) ] e

  not_misfit : (w : Option (ℕ × Kind)) → Some Named ≡ misfit G w → ⊥
  not_misfit None e = absurd (cc e)
  not_misfit (Some (v, kind.Subject)) e = unlike _ (cause.NotSubject v) Named (λ s. absurd (cc s)) e
  not_misfit (Some (v, kind.Document)) e = unlike _ (cause.NotDocument v) Named (λ s. absurd (cc s)) e

  lacks : (x : ℕ) (c : Command) → denial G x c ≡ Some Named → AreMissing
  lacks x c e = by (failure (checks G x (terms x c)) Named e) where
    by : Contains (checks G x (terms x c)) (Some Named) → AreMissing
    by (inl e) = absurd (unlike _ cause.Retired Named (λ s. absurd (cc s)) e)
    by (inr (inl e)) = absurd (unlike _ cause.Empty Named (λ s. absurd (cc s)) e)
    by (inr (inr (inl e))) = absurd (unlike _ cause.NotDistinct Named (λ s. absurd (cc s)) e)
    by (inr (inr (inr (inl e)))) = missed (terms x c).needs (sym e)
    by (inr (inr (inr (inr (inl e))))) = absurd (not_misfit (terms x c).wants e)
    by (inr (inr (inr (inr (inr (inl e)))))) = absurd (unlike _ cause.NotPrincipal Named (λ s. absurd (cc s)) e)
    by (inr (inr (inr (inr (inr (inr (inl e))))))) = absurd (unlike _ cause.NameTaken Named (λ s. absurd (cc s)) e)
    by (inr (inr (inr (inr (inr (inr (inr (inl e)))))))) = absurd (unlike _ cause.Crowded Named (λ s. absurd (cc s)) e)
    by (inr (inr (inr (inr (inr (inr (inr (inr none)))))))) = absurd none

pub does_so : EachDoesSo
does_so G x = record {
  takes = λ α y z t. given G x α y t;
  grants = λ α y z t. given G z α y t;
  creates = λ k α t. given G x α G.next t;
  enrols = λ name α t. given G x α G.next t;
  removes = λ α y t. lost G x α y t;
  makes = λ k α. made G (record { kind = k; text = [] });
  numbers = λ k α. refl;
  tells = λ y. refl;
  lists = λ y. refl;
  removes_freely = λ α y. refl;
  writes_freely = λ y text. refl;
  empty = λ α y z unretired none. rw (unretired, none) refl;
  itself = λ α z unretired some. (let same = eq-eqb x x refl in rw (unretired, some, same) refl);
  lacks = λ c β y z e. lacks G β y z x c e;
}
