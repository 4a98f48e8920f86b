-- A cursor in a list without repeated cells: it names the first edge that is left.
use Rattle.std.proofs.Common.{◌≡◌, ◌≢◌, ℕ, List, [], ◌∷◌, ◌++◌, Option, Some, None, sym, subst, ap, refl, cond, true, false, eqb, eq-eqb, append-nil, map}
use Rattle.std.proofs.lemmas.Bool.{ne_eqb}
use Rattle.tg_lists.specs.Promise.Membership.{Contains, Distinct}
use Rattle.tg_lists.proofs.MembershipLemmas.{contains_middle, contains_map}
use Rattle.tg_cells.specs.Promise.Lists.{Edge, first_cell}
use Rattle.tg_heap.specs.Inner.Marking.{remaining}

abbrev pub cells : List Edge → List ℕ
cells es = map (λ e. e.cell) es

-- the edges before the cursor
abbrev pub passed : Option ℕ → List Edge → List Edge
passed None es = es
passed (Some c) [] = []
passed (Some c) (e ∷ es) = cond (eqb e.cell c) [] (e ∷ passed (Some c) es)

-- Every split of the list is that of its cursor.
pub remaining_split : (p r : List Edge) → Distinct (cells (p ++ r)) → remaining (first_cell r) (p ++ r) ≡ r
remaining_split [] [] d = refl
remaining_split [] (e ∷ r) d = rw (eq-eqb e.cell e.cell refl) refl
remaining_split (a ∷ p) [] d = refl
remaining_split (a ∷ p) (e ∷ r) d =
    let last : Contains (cells (p ++ e ∷ r)) e.cell = contains_map (λ (x : Edge). x.cell) (p ++ e ∷ r) e (contains_middle p r e) in
    let other : a.cell ≢ e.cell = λ i. d.0 (subst (Contains (cells (p ++ e ∷ r))) (sym i) last) in
    rw (ne_eqb a.cell e.cell other) (remaining_split p (e ∷ r) d.1)

-- The passed and the remaining edges are the whole list.
pub split_whole : (c : Option ℕ) (es : List Edge) → passed c es ++ remaining c es ≡ es
split_whole None es = append-nil es
split_whole (Some c) [] = refl
split_whole (Some c) (e ∷ es) = elim (eqb e.cell c) as (λ b. cond b [] (e ∷ passed (Some c) es) ++ cond b (e ∷ es) (remaining (Some c) es) ≡ e ∷ es) [
  | true ↦ refl
  | false ↦ ap (λ (xs : List Edge). e ∷ xs) (split_whole (Some c) es)
]
