-- The labels that a graph lends, entry by entry.
use Rattle.std.proofs.Common.{◌≡◌, ℕ, ◌∷◌, [], List, Bool, true, false, refl, sym, ap, subst, ◌∙◌, cond, inl, inr, Some}
use Rattle.std.specs.Prelude.{Option}
use Rattle.std.specs.List.{All}
use Rattle.std.specs.Map.{keys_of, lookup}
use Rattle.std.specs.Option.{unwrap_or}
use Rattle.std.specs.Ordering.{is_eq}
use Rattle.std.specs.BTreeMap as tree
use Rattle.std.proofs.lemmas.Bool.{eqb-true}
use Rattle.std.proofs.lemmas.List.Elements.{All-head, All-tail}
use Rattle.tg_lists.specs.Promise.Membership.{Contains}
use Rattle.tg_rights.specs.Promise.Letters.{Letters, is_none, none}
use Rattle.tg_rights.proofs.Bools.{and_both}
use Rattle.tg_graph.specs.Promise.Protection.{IsEdge, Protection, label}
use Rattle.tg_graph.specs.Promise.Views.{AreLabels, label_at, pair_cmp}
use Rattle.tg_graph.proofs.ViewsLemmas.{pair_tied}

abbrev pub Labels : Type 0
Labels = List ((ℕ × ℕ) × Letters)

-- the pair has an entry if its label is not empty
has_entry : (es : Labels) (x y : ℕ) → is_none (label_at es x y) ≡ false → Contains (keys_of es) (x, y)
has_entry [] x y some = absurd (cc some)
has_entry (e ∷ es) x y some = by (is_eq (pair_cmp (x, y) e.0)) refl some (has_entry es x y) where
  by : (b : Bool) → is_eq (pair_cmp (x, y) e.0) ≡ b → is_none (unwrap_or (cond b (Some e.1) (lookup (tree.is_at (pair_cmp (x, y))) es)) none) ≡ false →
      (is_none (label_at es x y) ≡ false → Contains (keys_of es) (x, y)) → Contains (e.0 ∷ keys_of es) (x, y)
  by true at some later = let same = and_both _ _ (sym (pair_tied (x, y) e.0) ∙ at) in inl (λ i. (eqb-true x e.0.0 same.0 i, eqb-true y e.0.1 same.1 i))
  by false at some later = inr (later some)

-- each edge has an entry
pub edge_listed : (G : Protection) (es : Labels) → AreLabels G es → (x y : ℕ) → IsEdge G x y → Contains (keys_of es) (x, y)
edge_listed G es labels x y some = has_entry es x y (ap is_none (labels x y) ∙ some)

-- what holds of all elements holds of each that the list has
each : {X : Type 0} (P : X → Type 0) (xs : List X) (x : X) → All P xs → Contains xs x → P x
each P [] x all h = absurd h
each P (y ∷ ys) x all (inl is) = subst P (sym is) (All-head P y ys all)
each P (y ∷ ys) x all (inr h) = each P ys x (All-tail P y ys all) h

-- a look-up finds the entry
abbrev IsLookedUp : Labels → (ℕ × ℕ) × Letters → Type 0
IsLookedUp es e = lookup (tree.is_at (pair_cmp e.0)) es ≡ Some e.1

-- each entry has the label of its pair
pub entry_label : (G : Protection) (es : Labels) → AreLabels G es → All (IsLookedUp es) es → (e : (ℕ × ℕ) × Letters) → Contains es e → e.1 ≡ label G e.0.0 e.0.1
entry_label G es labels found e h =
    let here : lookup (tree.is_at (pair_cmp e.0)) es ≡ Some e.1 = each (IsLookedUp es) es e found h in
    sym (ap (λ (o : Option Letters). unwrap_or o none) here) ∙ labels e.0.0 e.0.1
