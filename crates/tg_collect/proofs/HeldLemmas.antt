-- What a change of one slot does to the graph of what is held.
use Rattle.std.proofs.Common.{◌≡◌, ◌≢◌, ℕ, zero, suc, ◌<◌, List, [], ◌∷◌, ◌++◌, length, map, Option, Some, None, ◌⊎◌, inl, inr, sym, ◌∙◌, subst, ap, refl, arith, get_or, set, Bool, true, false, cond, ◌&&◌, ◌||◌, not, ◌==◌, eqb-true, get_or-set_same, get_or-set_other}
use Rattle.std.specs.List.{list_any}
use Rattle.std.proofs.lemmas.Bool.Decides.{nat_tests}
use Rattle.std.proofs.lemmas.List.{set-get_or, set_split}
use Rattle.std.proofs.lemmas.List.Folds.{list_any-append}
use Rattle.std.specs.Ordering.{nat_cmp, eq_by_cmp}
use Rattle.std.specs.Cmp.{nat_cmp_total}
use Rattle.std.specs.FinMap as finmap
use Rattle.std.specs.FinMap.{find, same_map, get-insert, get-from_entries, nat_cmp-IsAntisymmetric}
use Rattle.std.specs.FinSet as finset
use Rattle.std.specs.FinSet.{contains-from_list, contains-union, contains-difference}
use Rattle.tg_lists.specs.Promise.Membership.{Contains, Distinct}
use Rattle.tg_lists.proofs.MembershipLemmas.{distinct_around, map_append}
use Rattle.tg_rights.specs.Promise.Letters.{Letters, has, joined, without}
use Rattle.tg_rights.proofs.LettersLemmas.{has_joined, has_without, has_none}
use Rattle.tg_graph.specs.Promise.Protection.{Triple, Triples, triple_cmp, edge, edge_list}
use Rattle.tg_graph.proofs.TriplesLemmas.{contains-edge, triple_cmp_total, same_triples}
use Rattle.tg_cells.specs.Promise.Lists.{Edge}
use Rattle.tg_marking.specs.Promise.Values.{Kept}
use Rattle.tg_marking.proofs.SpotLemmas.{at_within}
use Rattle.tg_collect.specs.Promise.Held.{vertex_of, entries, triples_from, triples, held, Apart, Gains, Joins, Drops, Comes}

-- Whether edges, a slot, and slots say a triple.
abbrev pub says_edge : List Edge → Triple → Bool
says_edge es t = list_any (λ (e : Edge). (t.to == e.serial) && has e.rights t.right) es

abbrev pub says_slot : Option Kept → Triple → Bool
says_slot None t = false
says_slot (Some k) t = (t.from == k.serial) && says_edge k.edges t

abbrev pub says : List (Option Kept) → Triple → Bool
says os t = list_any (λ o. says_slot o t) os

any_from : (x : ℕ) (es : List Edge) (t : Triple) → list_any (eq_by_cmp triple_cmp t) (triples_from x es) ≡ ((t.from == x) && says_edge es t)
unfolding edge
any_from x [] t = grind arith
any_from x (e ∷ es) t =
    let rest = any_from x es t in
    let here = sym (contains-from_list triple_cmp_total (edge_list x e.rights e.serial) t) ∙ contains-edge x e.serial e.rights t in
    grind (arith, list_any-append (eq_by_cmp triple_cmp t))

any_says : (os : List (Option Kept)) (t : Triple) → list_any (eq_by_cmp triple_cmp t) (triples os) ≡ says os t
any_says [] t = refl
any_says (o ∷ os) t = let rest = any_says os t in grind (arith, list_any-append (eq_by_cmp triple_cmp t), any_from)

pub contains-held : (os : List (Option Kept)) (next : ℕ) (t : Triple) → finset.contains (held os next).triples t ≡ says os t
contains-held os next t = contains-from_list triple_cmp_total (triples os) t ∙ any_says os t

-- What one slot says, and what the others say.
says_set : (os : List (Option Kept)) (i : ℕ) (o : Option Kept) (t : Triple) → i < length os → says (set os i o) t ≡ (says_slot o t || says (set os i None) t)
says_set os i o t l = simp (set_split, list_any-append) (grind arith)

says_was : (os : List (Option Kept)) (i : ℕ) (o : Option Kept) (t : Triple) → i < length os → get_or os i None ≡ o → says os t ≡ (says_slot o t || says (set os i None) t)
says_was os i o t l at = ap (λ xs. says xs t) (sym (set-get_or os i None) ∙ ap (λ q. set os i q) at) ∙ says_set os i o t l

-- The graph after a slot's edges are others, by the triples that it then has.
entries_same : (os : List (Option Kept)) (i : ℕ) (k : Kept) (es : List Edge) → get_or os i None ≡ Some k → entries (set os i (Some (record k { edges = es }))) ≡ entries os
entries_same [] i k es e = refl
entries_same (o ∷ os) zero k es e = rw e refl
entries_same (o ∷ os) (suc i) k es e = let rest = entries_same os i k es e in grind arith

other_edges : (os : List (Option Kept)) (i next : ℕ) (k : Kept) (es : List Edge) (ts : Triples) → get_or os i None ≡ Some k
    → ((t : Triple) (rest : Bool) → finset.contains (held os next).triples t ≡ (((t.from == k.serial) && says_edge k.edges t) || rest) → rest ≡ says (set os i None) t → finset.contains ts t ≡ (((t.from == k.serial) && says_edge es t) || rest))
    → held (set os i (Some (record k { edges = es }))) next ≡ record (held os next) { triples = ts }
other_edges os i next k es ts at h = λ n. record { vertices = finmap.from_entries (entries_same os i k es at n); next = next; triples = same_triples _ _ is n; names = []; retired = finset.empty } where
  is : (t : Triple) → finset.contains (held (set os i (Some (record k { edges = es }))) next).triples t ≡ finset.contains ts t
  is t = contains-held (set os i (Some (record k { edges = es }))) next t ∙ says_set os i (Some (record k { edges = es })) t (at_within os i k at)
      ∙ sym (h t (says (set os i None) t) (contains-held os next t ∙ says_was os i (Some k) t (at_within os i k at) at) refl)

-- The slot says more.
more : (os : List (Option Kept)) (i next : ℕ) (k : Kept) (es : List Edge) (rights : Letters) (y : ℕ) → get_or os i None ≡ Some k
    → ((t : Triple) → says_edge es t ≡ (says_edge k.edges t || ((t.to == y) && has rights t.right)))
    → held (set os i (Some (record k { edges = es }))) next ≡ record (held os next) { triples = finset.union (held os next).triples (edge k.serial rights y) }
more os i next k es rights y at h = other_edges os i next k es _ at (λ t rest was said. let edges = h t in grind (arith, contains-union triple_cmp_total, contains-edge))

pub gains : Gains
gains os i next k e is = more os i next k (e ∷ k.edges) e.rights e.serial is (λ t. grind arith)

-- The middle edge of a list.
says_middle : (p r : List Edge) (e : Edge) (t : Triple) → says_edge (p ++ e ∷ r) t ≡ (((t.to == e.serial) && has e.rights t.right) || says_edge (p ++ r) t)
says_middle p r e t = simp list_any-append (grind arith)

pub joins : Joins
joins os i next k before e after rights is at = more os i next k (before ++ record e { rights = joined e.rights rights } ∷ after) rights e.serial is
    (λ t. says_middle before after (record e { rights = joined e.rights rights }) t ∙ rw (has_joined e.rights rights t.right, at, says_middle before after e t) (grind arith))

-- The slot says less.
abbrev serials : List Edge → List ℕ
serials es = map (λ (e : Edge). e.serial) es

no_edge : (es : List Edge) (t : Triple) → (Contains (serials es) t.to → ⊥) → says_edge es t ≡ false
no_edge [] t n = refl
no_edge (e ∷ es) t n = let rest = no_edge es t (λ c. n (inr c)) in let other : t.to ≢ e.serial = λ h. n (inl h) in grind (arith, nat_tests)

no_slot : (os : List (Option Kept)) (t : Triple) → ((j : ℕ) (k : Kept) → get_or os j None ≡ Some k → k.serial ≢ t.from) → says os t ≡ false
no_slot [] t n = refl
no_slot (o ∷ os) t n = let rest = no_slot os t (λ j k h. n (suc j) k h) in let first = n zero in grind (arith, nat_tests)

says_cut : (p r : List Edge) (e : Edge) (rights : Letters) (t : Triple) → Distinct (serials (p ++ e ∷ r))
    → says_edge (p ++ record e { rights = without e.rights rights } ∷ r) t ≡ (says_edge (p ++ e ∷ r) t && not ((t.to == e.serial) && has rights t.right))
says_cut p r e rights t d = says_middle p r (record e { rights = without e.rights rights }) t
    ∙ rw (has_without e.rights rights t.right, says_middle p r e t) (let none = λ (b : (t.to == e.serial) ≡ true). no_edge (p ++ r) t (other b) in grind arith)
  where
    other : (t.to == e.serial) ≡ true → Contains (serials (p ++ r)) t.to → ⊥
    other b c = (distinct_around (serials p) (serials r) e.serial (subst (λ l. Distinct l) (map_append (λ (x : Edge). x.serial) p (e ∷ r)) d)).1
        (subst (λ l. Contains l e.serial) (map_append (λ (x : Edge). x.serial) p r) (subst (Contains (serials (p ++ r))) (eqb-true t.to e.serial b) c))

less : (os : List (Option Kept)) (i next : ℕ) (k : Kept) (es : List Edge) (rights : Letters) (y : ℕ) → get_or os i None ≡ Some k → Apart os i k.serial
    → ((t : Triple) → says_edge es t ≡ (says_edge k.edges t && not ((t.to == y) && has rights t.right)))
    → held (set os i (Some (record k { edges = es }))) next ≡ record (held os next) { triples = finset.difference (held os next).triples (edge k.serial rights y) }
less os i next k es rights y is apart h = other_edges os i next k es _ is (λ t rest was said.
    let edges = h t in
    let alone : (t.from == k.serial) ≡ true → rest ≡ false = λ b. said ∙ no_slot (set os i None) t (λ j z h f. others j z h (f ∙ eqb-true t.from k.serial b)) in
    grind (arith, contains-difference triple_cmp_total, contains-edge))
  where
    others : (j : ℕ) (z : Kept) → get_or (set os i None) j None ≡ Some z → z.serial ≢ k.serial
    others j z h f = let within = at_within os i k is in let other = apart j z in grind (arith, get_or-set_same, get_or-set_other)

pub drops : Drops
drops os i next k before e after es rights is at once apart cut = less os i next k es rights e.serial is apart (λ t.
    let here = says_cut before after e rights t (subst (λ (xs : List Edge). Distinct (serials xs)) at once) in
    let none = says_middle before after (record e { rights = without e.rights rights }) t in
    elim cut [ inl some ↦ rw (some, at) here | inr gone ↦ rw (gone.0, at, sym here, none, gone.1, has_none t.right) (grind arith) ])

-- A vertex of this serial comes in or changes.
abbrev pub Room : Option Kept → Kept → Type 0
Room o k = ((o ≡ None) × (k.edges ≡ [])) ⊎ ((j : Kept) × (o ≡ Some j) × (j.serial ≡ k.serial) × (j.edges ≡ k.edges))

find_put : (os : List (Option Kept)) (i : ℕ) (k : Kept) (q : ℕ) → i < length os → Apart os i k.serial → Room (get_or os i None) k
    → find nat_cmp q (entries (set os i (Some k))) ≡ cond (eq_by_cmp nat_cmp q k.serial) (Some (vertex_of k)) (find nat_cmp q (entries os))
find_put [] i k q l a r = absurd (omega (arith, l))
find_put (o ∷ os) zero k q l a r = grind arith
find_put (o ∷ os) (suc i) k q l a r =
    let rest = find_put os i k q (omega (arith, l)) (λ j y n. a (suc j) y (λ z. n (let u : j ≡ i = omega (arith, z) in u))) r in
    let other = a zero in grind (arith, nat_tests)

pub comes : Comes
comes os i next k l apart room = λ n. record { vertices = put n; next = next; triples = same n; names = []; retired = finset.empty } where
  put : (held (set os i (Some k)) next).vertices ≡ finmap.insert (held os next).vertices k.serial (vertex_of k)
  put = same_map nat_cmp_total nat_cmp-IsAntisymmetric _ _ (λ q. get-from_entries nat_cmp_total (entries (set os i (Some k))) q ∙ find_put os i k q l apart room
      ∙ sym (get-insert nat_cmp_total (held os next).vertices k.serial (vertex_of k) q ∙ ap (λ o. cond (eq_by_cmp nat_cmp q k.serial) (Some (vertex_of k)) o) (get-from_entries nat_cmp_total (entries os) q)))

  same : (held (set os i (Some k)) next).triples ≡ (held os next).triples
  same = same_triples _ _ (λ t.
      let was = contains-held os next t ∙ says_was os i (get_or os i None) t l refl in
      let now = contains-held (set os i (Some k)) next t ∙ says_set os i (Some k) t l in grind arith)
