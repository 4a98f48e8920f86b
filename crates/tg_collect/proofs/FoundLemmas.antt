-- Lists that are gathered number by number, and then sorted.
use Rattle.std.proofs.Common.{◌≡◌, ◌≢◌, ℕ, zero, suc, ◌<◌, ◌≤◌, List, [], ◌∷◌, ◌++◌, length, Option, Some, None, inl, inr, Bool, true, false, refl, sym, ◌∙◌, subst, ap, arith, get_or, map}
use Rattle.tg_collect.proofs.Common.{get_or-map, length-map, apart_from_distinct, at_within, cases_eq, Contains, contains_append, contains_left, contains_right, Distinct, eq_by_cmp, eq_by_cmp_equiv, is_eq, is_lt, IsDistinct-IsPermutation, IsPermutation, IsPermutation-sym, IsSortedBy, IsSortedByKey, IsStore, IsTotalOrder, Less, Machine, MatchOrdering, spot_serial, nat_cmp, nat_cmp_total, on_total, option_to_list, Ordering, ordering_reverse, permuted, placed, ranks, ranks_by, recursion_from_All, Rises, rises_append, serial_tied, sorted_far, stored, untrue}
use Rattle.std.specs.List.{IsDistinct}
use Rattle.tg_collect.proofs.SlotLemmas.{at_index, zip_size}
use Rattle.tg_collect.specs.Inner.Parts.{AreFound}
use Rattle.tg_collect.specs.Promise.Readings.{serial_in_slot}

-- What the numbers below n give, one after the other.
abbrev pub gathered : {X : Type 0} → (ℕ → List X) → ℕ → List X
gathered f zero = []
gathered f (suc n) = gathered f n ++ f n

-- A list of which no two elements are equal by a test, as std has it; and a list in order, from its places.
apart_distinct : {X : Type 0} (same : X → X → Bool) (xs : List X) → Rises (λ x y. same x y ≡ false) xs → IsDistinct same xs
unfolding IsDistinct
apart_distinct same [] r = tt
apart_distinct same (x ∷ xs) r = (recursion_from_All (λ y. same x y ≡ false) xs (λ k d low. r.0 (get_or xs k d) (at_index xs k d low)), apart_distinct same xs r.1)

at_rises : {X : Type 0} (before : X → X → Type 0) (xs : List X) → ((i j : ℕ) (d : X) → i < j → j < length xs → before (get_or xs i d) (get_or xs j d)) → Rises before xs
at_rises before [] all = tt
at_rises before (x ∷ xs) all = (
  λ y h. let at = placed xs y x h in let within = at.1 in subst (before x) at.2 (all 0 (suc at.0) x (omega arith) (omega (arith, within))),
  at_rises before xs (λ i j d low within. all (suc i) (suc j) d (omega (arith, low)) (omega (arith, within))),
)

pub rises_distinct : {X : Type 0} (xs : List X) → Rises (λ x y. x ≢ y) xs → Distinct xs
rises_distinct [] r = tt
rises_distinct (x ∷ xs) r = (λ h. r.0 x h refl, rises_distinct xs r.1)

pub nat_less : (a b : ℕ) → nat_cmp a b ≡ Less → a < b
nat_less a b is = subst (λ o. MatchOrdering o (a < b) (a ≡ b) (b < a)) is (ranks a b)

module _ {X : Type 0} (f : ℕ → List X) where
  -- Each element is what some number gives.
  pub gathered_from : (n : ℕ) (x : X) → Contains (gathered f n) x → (i : ℕ) × (i < n) × Contains (f i) x
  gathered_from zero x h = absurd h
  gathered_from (suc n) x h = elim (contains_append (gathered f n) (f n) x h) [
    | inl old ↦ (let r = gathered_from n x old in let low = r.1 in (r.0, omega (arith, low), r.2))
    | inr new ↦ (n, omega arith, new)
  ]

  pub gathered_to : (n i : ℕ) (x : X) → i < n → Contains (f i) x → Contains (gathered f n) x
  gathered_to zero i x low h = absurd (omega (arith, low))
  gathered_to (suc n) i x low h = elim (cases_eq i n) [
    | inl here ↦ contains_right (gathered f n) (f n) x (subst (λ (j : ℕ). Contains (f j) x) here h)
    | inr other ↦ contains_left (gathered f n) (f n) x (gathered_to n i x (omega (arith, low, other)) h)
  ]

  pub gathered_rises : (before : X → X → Type 0) → ((i : ℕ) → Rises before (f i)) → ((i j : ℕ) (x y : X) → i < j → Contains (f i) x → Contains (f j) y → before x y) → (n : ℕ) → Rises before (gathered f n)
  gathered_rises before within across zero = tt
  gathered_rises before within across (suc n) = rises_append before (gathered f n) (f n) (gathered_rises before within across n) (within n) (λ x y h k. let r = gathered_from n x h in across r.0 n x y r.1 r.2 k)

-- At most one element.
pub optional : {X : Type 0} (o : Option X) (x : X) → Contains (option_to_list o) x → o ≡ Some x
optional None x h = absurd h
optional {X} (Some y) x (inl is) = ap (λ (z : X). Some z) (sym is)
optional (Some y) x (inr h) = absurd h

pub chosen : {X : Type 0} (o : Option X) (x : X) → o ≡ Some x → Contains (option_to_list o) x
chosen o x is = subst (λ p. Contains (option_to_list p) x) (sym is) (inl refl)

pub alone : {X : Type 0} (before : X → X → Type 0) (o : Option X) → Rises before (option_to_list o)
alone before None = tt
alone before (Some x) = (λ y h. absurd h, tt)

-- Neither equal nor the later of two.
less : (o : Ordering) → is_eq o ≡ false → is_lt (ordering_reverse o) ≡ false → o ≡ Less
less Less apart up = refl
less _ apart up = absurd (cc)

-- What the slots of a store give, each with the serial of its slot, sorted by an order of which no two are equal.
module _ (m : Machine) (s : IsStore (stored m)) where
  named_within : (i x : ℕ) → serial_in_slot (stored m) i ≡ Some x → i < length m.heap.table.slots
  named_within i x is =
      let low = at_within (map spot_serial (stored m).slots) i x (get_or-map spot_serial (stored m).slots i None ∙ is) in
      let same = length-map (stored m).slots spot_serial in
      let size = zip_size m.heap.table.slots m.heap.lists in
      omega (arith, low, same, size)

  module _ {X : Type 0} (given : ℕ → List X) (serial : X → ℕ) (named : (i : ℕ) (x : X) → Contains (given i) x → serial_in_slot (stored m) i ≡ Some (serial x)) (compare : X → X → Ordering) (total : IsTotalOrder compare)
      (tied : (x y : X) → is_eq (compare x y) ≡ true → serial x ≡ serial y) (within : (i : ℕ) → Rises (λ x y. is_eq (compare x y) ≡ false) (given i)) (before : X → X → Type 0) (earlier : (x y : X) → compare x y ≡ Less → before x y) where
    apart : (n : ℕ) → Rises (λ x y. is_eq (compare x y) ≡ false) (gathered given n)
    apart = gathered_rises given _ within (λ i j x y low h k. untrue _ (λ t.
        let same = s.once i j (serial x) (named i x h) (named j y k ∙ ap (λ (z : ℕ). Some z) (sym (tied x y t))) in
        absurd (omega (arith, low, same))))

    pub gathered_sorted : (n : ℕ) → length m.heap.table.slots ≤ n → (ys : List X) → IsPermutation (gathered given n) ys → IsSortedBy (λ x y. is_lt (compare x y)) ys → AreFound given before ys
    gathered_sorted n all ys moved up = record {
      has = λ x. (
        λ h. let r = gathered_from given n x (permuted ys (gathered given n) x (IsPermutation-sym (gathered given n) ys moved) h) in (r.0, r.2),
        λ r. let low = named_within r.0 (serial x) (named r.0 x r.1) in permuted (gathered given n) ys x moved (gathered_to given n r.0 x (omega (arith, low, all)) r.1),
      );
      rising = at_rises before ys (λ i j d low high.
          earlier _ _ (less _ (apart_from_distinct (eq_by_cmp compare) ys i j d distinct low high)
          (ap is_lt (sym (total.antisymm _ _)) ∙ sorted_far _ (ranks_by total (λ x. x)) ys up i j d (omega (arith, low)) high)));
    } where
      distinct : IsDistinct (eq_by_cmp compare) ys
      distinct = IsDistinct-IsPermutation (eq_by_cmp compare) (eq_by_cmp_equiv total).symm (gathered given n) ys moved (apart_distinct (eq_by_cmp compare) (gathered given n) (apart n))

  -- At most one for each slot.
  pub found_sorted : {X : Type 0} (at : ℕ → Option X) (serial : X → ℕ) → ((i : ℕ) (x : X) → at i ≡ Some x → serial_in_slot (stored m) i ≡ Some (serial x)) → (n : ℕ) → length m.heap.table.slots ≤ n → (ys : List X) →
      IsPermutation (gathered (λ i. option_to_list (at i)) n) ys → IsSortedByKey serial nat_cmp ys → AreFound (λ i. option_to_list (at i)) (λ x y. serial x < serial y) ys
  found_sorted {X} at serial named = gathered_sorted (λ i. option_to_list (at i)) serial (λ i x h. named i x (optional (at i) x h)) (λ x y. nat_cmp (serial x) (serial y)) (on_total serial nat_cmp_total)
      (λ x y. (serial_tied (serial x) (serial y)).0) (λ i. alone _ (at i)) (λ x y. serial x < serial y) (λ x y. nat_less (serial x) (serial y))
