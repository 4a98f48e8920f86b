-- Lists in order, as entries of a map, and in another order; and what their elements come to.
use Rattle.std.proofs.Common.{◌≡◌, ◌≢◌, ℕ, zero, suc, ◌<◌, ◌≤◌, ◌∷◌, [], ◌++◌, List, Bool, true, false, T, cond, length, map, get_or, refl, sym, ap, subst, ◌∙◌, ◌==◌, append-nil, append_assoc, inl, inr, Some, arith}
use Rattle.std.specs.Prelude.{◌↔◌, sum_by}
use Rattle.std.specs.List.{AllByRecursion, AllPairs}
use Rattle.std.specs.List.Sorted.{IsNonDecreasingBy, IsPermutation, IsStrictlySortedBy}
use Rattle.std.specs.Ordering.{eq_by_cmp, is_eq, is_lt, nat_cmp, ordering_then}
use Rattle.std.specs.declared.cmp.Ordering.{Ordering}
use Rattle.std.specs.declared.cmp.Ordering.TheVariants.{Equal, Less}
use Rattle.std.specs.Cmp.{IsTotalOrder, eq_by_cmp_equiv, nat_cmp_is, nat_eq_equiv, unsigned_tied}
use Rattle.std.specs.Map.{keys_of, lookup}
use Rattle.std.specs.BTreeMap as tree
use Rattle.std.specs.FinMap as finmap
use Rattle.std.specs.FinMap.Entries.{below_all, same_entries}
use Rattle.std.proofs.lemmas.Bool.{eqb-true, eq-eqb, and_parts, and_from}
use Rattle.std.proofs.lemmas.List.{nil_from_length}
use Rattle.std.proofs.lemmas.List.Sorted.{Contains-permutation}
use Rattle.std.proofs.lemmas.List.Sums.{sum_by-append, sum_by-cons}
use Rattle.std.proofs.lemmas.Map.Keys.{IsDistinct-IsPermutation, IsDistinct-from_sorted}
use Rattle.std.proofs.lemmas.Map.Lookups.{CmpEqualImpliesEq}
use Rattle.std.proofs.lemmas.Map.Made.{AllPairs-from_IsDistinct, IsDistinct-from_AllPairs, update_all_none}
use Rattle.tg_lists.specs.Promise.Membership.{Contains, Distinct}
use Rattle.tg_lists.proofs.MembershipLemmas.{contains_append, contains_left, contains_map, contains_right, split_at}
use Rattle.tg_rights.proofs.Bools.{true_both}
use Rattle.tg_graph.specs.declared.member.Member.{Member}
use Rattle.tg_graph.specs.Promise.Protection.{Rise}
use Rattle.tg_graph.specs.Promise.Opening.{ListedEdge}
use Rattle.tg_graph.specs.Promise.Parts.{Before, Rises}
use Rattle.tg_graph.specs.Inner.Parts.{members_of}
use Rattle.tg_graph.proofs.RollLemmas.{untrue}
pub use Rattle.tg_graph.proofs.RollLemmas.{mapped}
use Rattle.tg_graph.specs.Promise.Views.{pair_cmp}
use Rattle.tg_graph.proofs.ViewsLemmas.{pair_tied}

-- lists in order, one after the other, and with each element changed
pub rises_append : {X : Type 0} (before : X → X → Type 0) (xs ys : List X) → Rises before xs → Rises before ys → ((x y : X) → Contains xs x → Contains ys y → before x y) → Rises before (xs ++ ys)
rises_append before [] ys r s across = s
rises_append before (x ∷ xs) ys r s across = (
  λ y h. elim (contains_append xs ys y h) [ inl first ↦ r.0 y first | inr second ↦ across x y (inl refl) second ],
  rises_append before xs ys r.1 s (λ z y h k. across z y (inr h) k),
)

pub rises_map : {X Y : Type 0} (f : X → Y) (before : X → X → Type 0) (after : Y → Y → Type 0) (xs : List X) → ((x y : X) → before x y → after (f x) (f y)) → Rises before xs → Rises after (map f xs)
rises_map f before after [] step r = tt
rises_map f before after (x ∷ xs) step r = (
  λ y h. let one = mapped f xs y h in subst (after (f x)) (sym one.2) (step x one.0 (r.0 one.0 one.1)),
  rises_map f before after xs step r.1,
)

-- ---- entries whose keys rise

all_below : {K V : Type 0} (cmp : K → K → Ordering) (k : K) (es : List (K × V)) → AllByRecursion (λ q. cmp k q ≡ Less) (keys_of es) → T (below_all cmp k es)
all_below cmp k [] below = tt
all_below cmp k (e ∷ es) below = true_both _ _ (subst (λ o. T (is_lt o)) (sym below.0) tt) (all_below cmp k es below.1)

sorted : {K V : Type 0} (cmp : K → K → Ordering) (es : List (K × V)) → IsStrictlySortedBy cmp (keys_of es) → T (finmap.is_sorted cmp es)
unfolding IsStrictlySortedBy
sorted cmp [] rises = tt
sorted cmp (e ∷ es) rises = true_both _ _ (all_below cmp e.0 es rises.0) (sorted cmp es rises.1)

find-lookup : {K V : Type 0} (cmp : K → K → Ordering) (q : K) (es : List (K × V)) → finmap.find cmp q es ≡ lookup (tree.is_at (cmp q)) es
find-lookup cmp q [] = refl
find-lookup cmp q (e ∷ es) = ap (cond (is_eq (cmp q e.0)) (Some e.1)) (find-lookup cmp q es)

-- a map that is collected from them has these entries
pub collected : {K V : Type 0} (cmp : K → K → Ordering) → IsTotalOrder cmp → CmpEqualImpliesEq cmp → (es : List (K × V)) (n : tree.BTreeMap K V) →
    IsStrictlySortedBy cmp (keys_of es) → tree.IsFromIterResult cmp es n → n.entries ≡ es
collected cmp o exact es n rises made =
    same_entries cmp o exact n.entries es (sorted cmp n.entries made.1) (sorted cmp es rises)
    (λ q. find-lookup cmp q n.entries ∙ made.0 q ∙ update_all_none (eq_by_cmp_equiv o) (eq_by_cmp cmp) (λ x y. refl) es q (IsDistinct-from_sorted cmp (keys_of es) rises) ∙ sym (find-lookup cmp q es))

-- a list in order, of elements each with a key and a value
module _ {X K V : Type 0} (cmp : K → K → Ordering) (before : X → X → Type 0) (key : X → K) (value : X → V) where
  abbrev pub entry : X → K × V
  entry x = (key x, value x)

  pub entries_sorted : ((x y : X) → before x y → cmp (key x) (key y) ≡ Less) → (xs : List X) → Rises before xs → IsStrictlySortedBy cmp (keys_of (map entry xs))
  unfolding IsStrictlySortedBy
  entries_sorted earlier [] rises = tt
  entries_sorted earlier (x ∷ xs) rises = (below xs rises.0, entries_sorted earlier xs rises.1) where
    below : (ys : List X) → ((y : X) → Contains ys y → before x y) → AllByRecursion (λ k. cmp (key x) k ≡ Less) (keys_of (map entry ys))
    below [] all = tt
    below (y ∷ ys) all = (earlier x y (all y (inl refl)), below ys (λ z h. all z (inr h)))

  module _ (tied : (q k : K) → (is_eq (cmp q k) ≡ true) ↔ (q ≡ k)) where
    -- what is found is listed
    pub found_listed : (xs : List X) (q : K) (w : V) → lookup (tree.is_at (cmp q)) (map entry xs) ≡ Some w → (x : X) × Contains xs x × (key x ≡ q) × (value x ≡ w)
    found_listed [] q w e = absurd (cc e)
    found_listed (x ∷ xs) q w e = by (is_eq (cmp q (key x))) refl e (found_listed xs q w) where
      by : (b : Bool) → is_eq (cmp q (key x)) ≡ b → cond b (Some (value x)) (lookup (tree.is_at (cmp q)) (map entry xs)) ≡ Some w →
          (lookup (tree.is_at (cmp q)) (map entry xs) ≡ Some w → (y : X) × Contains xs y × (key y ≡ q) × (value y ≡ w)) →
          (y : X) × Contains (x ∷ xs) y × (key y ≡ q) × (value y ≡ w)
      by true here f later = (x, inl refl, sym ((tied q (key x)).0 here), cc f)
      by false there f later = let rest = later f in (rest.0, inr rest.1, rest.2, rest.3)

    -- what is listed is found
    pub listed_found : ((x y : X) → before x y → key x ≢ key y) → (xs : List X) (x : X) → Rises before xs → Contains xs x → lookup (tree.is_at (cmp (key x))) (map entry xs) ≡ Some (value x)
    listed_found apart [] x rises h = absurd h
    listed_found apart (y ∷ xs) x rises (inl is) =
        ap (λ b. cond b (Some (value y)) (lookup (tree.is_at (cmp (key x))) (map entry xs))) ((tied (key x) (key y)).1 (ap key is)) ∙ ap (λ (z : X). Some (value z)) (sym is)
    listed_found apart (y ∷ xs) x rises (inr h) =
        ap (λ b. cond b (Some (value y)) (lookup (tree.is_at (cmp (key x))) (map entry xs)))
        (untrue (is_eq (cmp (key x) (key y))) (λ t. apart y x (rises.0 x h) (sym ((tied (key x) (key y)).0 t))))
        ∙ listed_found apart xs x rises.1 h

-- serials, and pairs of ends
pub serial_tied : (q k : ℕ) → (is_eq (nat_cmp q k) ≡ true) ↔ (q ≡ k)
serial_tied q k = (λ t. eqb-true q k (sym (unsigned_tied q k) ∙ t), λ e. unsigned_tied q k ∙ eq-eqb q k e)

pub ends_tied : (q k : ℕ × ℕ) → (is_eq (pair_cmp q k) ≡ true) ↔ (q ≡ k)
ends_tied q k = (
  λ t. let both = and_parts _ _ (sym (pair_tied q k) ∙ t) in λ i. (eqb-true q.0 k.0 both.0 i, eqb-true q.1 k.1 both.1 i),
  λ e. pair_tied q k ∙ and_from _ _ (eq-eqb q.0 k.0 (ap (λ (p : ℕ × ℕ). p.0) e)) (eq-eqb q.1 k.1 (ap (λ (p : ℕ × ℕ). p.1) e)),
)

pub serial_earlier : (v w : ℕ) → v < w → nat_cmp v w ≡ Less
serial_earlier v w low = sym (nat_cmp_is v w Less low)

pub edge_earlier : (e f : ListedEdge) → Before e f → pair_cmp (e.0, e.2) (f.0, f.2) ≡ Less
edge_earlier e f (inl low) = ap (λ o. ordering_then o (nat_cmp e.2 f.2)) (serial_earlier e.0 f.0 low)
edge_earlier e f (inr tie) = ap (λ o. ordering_then o (nat_cmp e.2 f.2)) (sym (nat_cmp_is e.0 f.0 Equal tie.0)) ∙ serial_earlier e.2 f.2 tie.1

pub serials_apart : (v w : ℕ) → v < w → v ≢ w
serials_apart v w low is = absurd (omega (arith, low, is))

pub edges_apart : (e f : ListedEdge) → Before e f → ◌≡◌ {A = ℕ × ℕ} (e.0, e.2) (f.0, f.2) → ⊥
edges_apart e f (inl low) is = serials_apart e.0 f.0 low (ap (λ (p : ℕ × ℕ). p.0) is)
edges_apart e f (inr tie) is = serials_apart e.2 f.2 tie.1 (ap (λ (p : ℕ × ℕ). p.1) is)

-- ---- the same elements in another order

pub placed : {X : Type 0} (xs : List X) (x d : X) → Contains xs x → (k : ℕ) × (k < length xs) × (get_or xs k d ≡ x)
placed [] x d h = absurd h
placed (y ∷ xs) x d (inl is) = (0, omega arith, sym is)
placed (y ∷ xs) x d (inr h) = let rest = placed xs x d h in let within = rest.1 in (suc rest.0, omega (arith, within), rest.2)

at_place : {X : Type 0} (xs : List X) (x d : X) (k : ℕ) → k < length xs → get_or xs k d ≡ x → Contains xs x
at_place [] x d k within is = absurd (omega (arith, within))
at_place (y ∷ xs) x d zero within is = inl (sym is)
at_place (y ∷ xs) x d (suc k) within is = inr (at_place xs x d k (omega (arith, within)) is)

pub permuted : {X : Type 0} (xs ys : List X) (x : X) → IsPermutation xs ys → Contains xs x → Contains ys x
permuted xs ys x same h = let there = Contains-permutation xs ys x same (placed xs x x h) in at_place ys x x there.0 there.1 there.2

-- elements that differ, by pairs of places, and as the test of equality has them
all_apart : {X : Type 0} (xs : List X) → Distinct xs → AllPairs (λ x y. x ≢ y) xs
all_apart [] d i j e a b q = absurd (omega (arith, b))
all_apart (x ∷ xs) d i zero e a b q = absurd (omega (arith, a))
all_apart (x ∷ xs) d zero (suc j) e a b q = d.0 (at_place xs x e j (omega (arith, b)) (sym q))
all_apart (x ∷ xs) d (suc i) (suc j) e a b q = all_apart xs d.1 i j e (omega (arith, a)) (omega (arith, b)) q

apart_all : {X : Type 0} (xs : List X) → AllPairs (λ x y. x ≢ y) xs → Distinct xs
apart_all [] f = tt
apart_all (x ∷ xs) f = (
  λ h. let at = placed xs x x h in let within = at.1 in f 0 (suc at.0) x (omega arith) (omega (arith, within)) (sym at.2),
  apart_all xs (λ i j d a b. f (suc i) (suc j) d (omega (arith, a)) (omega (arith, b))),
)

pub still_distinct : {X : Type 0} (test : X → X → Bool) (same : (x y : X) → (test x y ≡ true → x ≡ y) × (x ≡ y → test x y ≡ true)) (flips : (x y : X) → test x y ≡ test y x) (xs ys : List X) →
    IsPermutation xs ys → Distinct xs → Distinct ys
still_distinct test same flips xs ys moved d =
    apart_all ys (AllPairs-from_IsDistinct {eq = test} same ys (IsDistinct-IsPermutation test flips xs ys moved (IsDistinct-from_AllPairs {eq = test} same xs (all_apart xs d))))

pub serials_distinct : (xs ys : List ℕ) → IsPermutation xs ys → Distinct xs → Distinct ys
serials_distinct xs ys moved d = still_distinct (λ a b. a == b) (λ a b. (eqb-true a b, eq-eqb a b)) nat_eq_equiv.symm xs ys moved d

pub distinct_last : {X : Type 0} (xs : List X) (y : X) → Distinct xs → (Contains xs y → ⊥) → Distinct (xs ++ y ∷ [])
distinct_last [] y d new = (λ h. absurd h, tt)
distinct_last (x ∷ xs) y d new = (
  λ h. elim (contains_append xs (y ∷ []) x h) [ inl old ↦ d.0 old | inr last ↦ elim last [ inl is ↦ new (inl (sym is)) | inr never ↦ absurd never ] ],
  distinct_last xs y d.1 (λ h. new (inr h)),
)

-- elements whose numbers do not fall and differ are in the order of these
pub rises_by : {X : Type 0} (number : X → ℕ) (xs : List X) → IsNonDecreasingBy number xs → Distinct (map number xs) → Rises (λ x y. number x < number y) xs
rises_by number [] up d = tt
rises_by {X} number (x ∷ xs) up d = (
  λ y h. let at = placed xs y x h in
      let within = at.1 in
      let low : number x ≤ number y = subst (λ (z : X). number x ≤ number z) at.2 (up 0 (suc at.0) x (omega arith) (omega (arith, within))) in
      let other : number x ≢ number y = λ is. d.0 (subst (Contains (map number xs)) (sym is) (contains_map number xs y h)) in
      omega (arith, low, other),
  rises_by number xs (λ i j e a b. up (suc i) (suc j) e (omega (arith, a)) (omega (arith, b))) d.1,
)

-- two lists in the order of such numbers are equal if they have the same elements
pub same_in_order : {X : Type 0} (number : X → ℕ) (xs ys : List X) → Rises (λ x y. number x < number y) xs → Rises (λ x y. number x < number y) ys →
    ((x : X) → Contains xs x → Contains ys x) → ((x : X) → Contains ys x → Contains xs x) → xs ≡ ys
same_in_order number [] [] r s f g = refl
same_in_order number [] (y ∷ ys) r s f g = absurd (g y (inl refl))
same_in_order number (x ∷ xs) [] r s f g = absurd (f x (inl refl))
same_in_order {X} number (x ∷ xs) (y ∷ ys) r s f g =
    λ i. head i ∷ same_in_order number xs ys r.1 s.1 (rest x y xs ys r.0 head f) (rest y x ys xs s.0 (sym head) g) i where
      head : x ≡ y
      head = elim (f x (inl refl)) [
        | inl is ↦ is
        | inr h ↦ elim (g y (inl refl)) [
          | inl is ↦ sym is
          | inr k ↦ absurd (let a = s.0 x h in let b = r.0 y k in omega (arith, a, b))
        ]
      ]

      rest : (a b : X) (us vs : List X) → ((c : X) → Contains us c → number a < number c) → a ≡ b → ((c : X) → Contains (a ∷ us) c → Contains (b ∷ vs) c) → (c : X) → Contains us c → Contains vs c
      rest a b us vs low is into c h = elim (into c (inr h)) [
        | inl here ↦ absurd (let l = low c h in let e = ap number (here ∙ sym is) in omega (arith, l, e))
        | inr there ↦ there
      ]

-- principals are in the order of their serials
pub rise_rises : (ms : List Member) → Rise ms → Rises (λ (m n : Member). m.serial < n.serial) ms
rise_rises [] r = tt
rise_rises (m ∷ ms) r = (r.0, rise_rises ms r.1)

pub rises_rise : (ms : List Member) → Rises (λ (m n : Member). m.serial < n.serial) ms → Rise ms
rises_rise [] r = tt
rises_rise (m ∷ ms) r = (r.0, rises_rise ms r.1)

pub members_rise : (ms : List Member) → IsNonDecreasingBy (λ (m : Member). m.serial) ms → Distinct (map (λ (m : Member). m.serial) ms) → Rise ms
members_rise ms up d = rises_rise ms (rises_by (λ (m : Member). m.serial) ms up d)

pub members_length : (ns : List (List ℕ × ℕ)) → length (members_of ns) ≡ length ns
members_length [] = refl
members_length (n ∷ ns) = ap (λ k. suc k) (members_length ns)

pub members_up : (ns : List (List ℕ × ℕ)) → IsNonDecreasingBy (λ (n : List ℕ × ℕ). n.1) ns → IsNonDecreasingBy (λ (m : Member). m.serial) (members_of ns)
members_up ns up i j d low within =
    let many = members_length ns in
    let first : (get_or (members_of ns) i d).serial ≡ (get_or ns i (d.name, d.serial)).1 = serial_at ns i (d.name, d.serial) in
    let second : (get_or (members_of ns) j d).serial ≡ (get_or ns j (d.name, d.serial)).1 = serial_at ns j (d.name, d.serial) in
    let below : (get_or ns i (d.name, d.serial)).1 ≤ (get_or ns j (d.name, d.serial)).1 = up i j (d.name, d.serial) low (omega (arith, within, many)) in
    omega (arith, first, second, below)
  where
    serial_at : (ns : List (List ℕ × ℕ)) (k : ℕ) (d : List ℕ × ℕ) → (get_or (members_of ns) k (record { name = d.0; serial = d.1 })).serial ≡ (get_or ns k d).1
    serial_at [] k d = refl
    serial_at (n ∷ ns) zero d = refl
    serial_at (n ∷ ns) (suc k) d = serial_at ns k d

-- ---- sums

-- what elements that occur once and elsewhere too come to is no more
pub sum_among : {X : Type 0} (f g : X → ℕ) (xs ys : List X) → Distinct xs → ((x : X) → Contains xs x → Contains ys x × (f x ≤ g x)) → sum_by f xs ≤ sum_by g ys
sum_among f g [] ys d among = omega arith
sum_among f g (x ∷ xs) ys d among =
    let here = among x (inl refl) in
    let s = split_at ys x here.0 in
    let rest = sum_among f g xs (s.before ++ s.after) d.1 (λ z h. (
      elim (contains_append s.before (x ∷ s.after) z (subst (λ (l : List _). Contains l z) s.is (among z (inr h)).0)) [
        | inl a ↦ contains_left s.before s.after z a
        | inr b ↦ elim b [ inl is ↦ absurd (d.0 (subst (Contains xs) is h)) | inr c ↦ contains_right s.before s.after z c ]
      ],
      (among z (inr h)).1,
    )) in
    let low = here.1 in
    let a = sum_by-append g s.before s.after in
    let b = sum_by-append g s.before (x ∷ s.after) in
    let c = sum_by-cons g x s.after in
    let e = sum_by-cons f x xs in
    let all : sum_by g ys ≡ sum_by g (s.before ++ x ∷ s.after) = ap (sum_by g) s.is in
    omega (arith, rest, low, a, b, c, e, all)

pub ones : {X : Type 0} (xs : List X) → sum_by (λ x. 1) xs ≡ length xs
ones [] = refl
ones (x ∷ xs) = let a = sum_by-cons (λ (y : _). 1) x xs in let b = ones xs in omega (arith, a, b)

-- ---- a loop over a vector's elements

pub one_more : {X : Type 0} (given left rest all : List X) (x : X) → given ++ left ≡ all → left ≡ x ∷ rest → (given ++ x ∷ []) ++ rest ≡ all
one_more {X} given left rest all x is steps = append_assoc given (x ∷ []) rest ∙ ap (λ (l : List X). given ++ l) (sym steps) ∙ is

pub all_given : {X : Type 0} (given rest all : List X) → given ++ rest ≡ all → length rest ≡ 0 → given ≡ all
all_given {X} given rest all is none = sym (append-nil given) ∙ ap (λ (l : List X). given ++ l) (sym (nil_from_length rest none)) ∙ is
