-- Lists in a list, of which one gets an element in front, or loses one, and what is in them then.
use Rattle.std.proofs.Common.{◌≡◌, ◌≢◌, ℕ, zero, suc, ◌<◌, List, [], ◌∷◌, ◌++◌, length, ◌⊎◌, inl, inr, sym, ◌∙◌, subst, ap, refl, set, get_or, arith, length-set, get_or-set_same, get_or-set_other, replicate}
use Rattle.std.proofs.lemmas.Bool.{cases_eq, cases_lt}
use Rattle.std.proofs.lemmas.List.{get_or-replicate, get_or_past, length-replicate}
use Rattle.tg_lists.specs.Promise.Membership.{Contains}
use Rattle.tg_lists.proofs.MembershipLemmas.{contains_around, contains_apart}

-- One of the lists has got an element in front.
pub added : {X : Type 0} (lists : List (List X)) (b : ℕ) (x : X) (a : ℕ) (y : X) → b < length lists → Contains (get_or (set lists b (x ∷ get_or lists b [])) a []) y → ((a ≡ b) × (y ≡ x)) ⊎ Contains (get_or lists a []) y
added lists b x a y w h = elim (cases_eq a b) [
  | inl is ↦ (
      let all : get_or (set lists b (x ∷ get_or lists b [])) a [] ≡ x ∷ get_or lists b [] = ap (λ (k : ℕ). get_or (set lists b (x ∷ get_or lists b [])) k []) is ∙ get_or-set_same lists b (x ∷ get_or lists b []) [] w in
      elim (subst (λ (l : List _). Contains l y) all h) [ inl e ↦ inl (is, e) | inr old ↦ inr (subst (λ (k : ℕ). Contains (get_or lists k []) y) (sym is) old) ]
      )
  | inr o ↦ inr (subst (λ (l : List _). Contains l y) (get_or-set_other lists b a (x ∷ get_or lists b []) [] o) h)
]

pub in_front : {X : Type 0} (lists : List (List X)) (b : ℕ) (x : X) → b < length lists → Contains (get_or (set lists b (x ∷ get_or lists b [])) b []) x
in_front lists b x w = subst (λ (l : List _). Contains l x) (sym (get_or-set_same lists b (x ∷ get_or lists b []) [] w)) (inl refl)

pub grown : {X : Type 0} (lists : List (List X)) (b : ℕ) (x : X) (a : ℕ) (y : X) → b < length lists → Contains (get_or lists a []) y → Contains (get_or (set lists b (x ∷ get_or lists b [])) a []) y
grown lists b x a y w h = elim (cases_eq a b) [
  | inl is ↦ subst (λ (k : ℕ). Contains (get_or (set lists b (x ∷ get_or lists b [])) k []) y) (sym is)
      (subst (λ (l : List _). Contains l y) (sym (get_or-set_same lists b (x ∷ get_or lists b []) [] w)) (inr (subst (λ (k : ℕ). Contains (get_or lists k []) y) is h)))
  | inr o ↦ subst (λ (l : List _). Contains l y) (sym (get_or-set_other lists b a (x ∷ get_or lists b []) [] o)) h
]

-- One of the lists has lost an element.
pub lost : {X : Type 0} (lists : List (List X)) (b : ℕ) (x : X) (p r : List X) (a : ℕ) (y : X) → b < length lists → get_or lists b [] ≡ p ++ x ∷ r → Contains (get_or (set lists b (p ++ r)) a []) y → Contains (get_or lists a []) y
lost lists b x p r a y w is h = elim (cases_eq a b) [
  | inl e ↦ (
      let all : get_or (set lists b (p ++ r)) a [] ≡ p ++ r = ap (λ (k : ℕ). get_or (set lists b (p ++ r)) k []) e ∙ get_or-set_same lists b (p ++ r) [] w in
      let here : get_or lists a [] ≡ p ++ x ∷ r = ap (λ (k : ℕ). get_or lists k []) e ∙ is in
      subst (λ (l : List _). Contains l y) (sym here) (contains_around p r x y (subst (λ (l : List _). Contains l y) all h))
      )
  | inr o ↦ subst (λ (l : List _). Contains l y) (get_or-set_other lists b a (p ++ r) [] o) h
]

pub kept : {X : Type 0} (lists : List (List X)) (b : ℕ) (x : X) (p r : List X) (a : ℕ) (y : X) → b < length lists → get_or lists b [] ≡ p ++ x ∷ r → y ≢ x → Contains (get_or lists a []) y → Contains (get_or (set lists b (p ++ r)) a []) y
kept lists b x p r a y w is other h = elim (cases_eq a b) [
  | inl e ↦ (
      let all : get_or (set lists b (p ++ r)) a [] ≡ p ++ r = ap (λ (k : ℕ). get_or (set lists b (p ++ r)) k []) e ∙ get_or-set_same lists b (p ++ r) [] w in
      let here : get_or lists a [] ≡ p ++ x ∷ r = ap (λ (k : ℕ). get_or lists k []) e ∙ is in
      elim (contains_apart p r x y (subst (λ (l : List _). Contains l y) here h)) [
        | inl same ↦ absurd (other same)
        | inr rest ↦ subst (λ (l : List _). Contains l y) (sym all) rest
      ]
      )
  | inr o ↦ subst (λ (l : List _). Contains l y) (sym (get_or-set_other lists b a (p ++ r) [] o)) h
]

-- One of the lists has another element in place of one, and no other list has changed.
pub swapped : {X : Type 0} (lists now : List (List X)) (b : ℕ) (p r : List X) (x y : X) (a : ℕ) (z : X) → get_or lists b [] ≡ p ++ x ∷ r → get_or now b [] ≡ p ++ y ∷ r → (a ≢ b → get_or now a [] ≡ get_or lists a [])
    → Contains (get_or lists a []) z → ((a ≡ b) × (z ≡ x)) ⊎ Contains (get_or now a []) z
swapped lists now b p r x y a z was is others h = elim (cases_eq a b) [
  | inl e ↦ elim (contains_apart p r x z (subst (λ (l : List _). Contains l z) (ap (λ (c : ℕ). get_or lists c []) e ∙ was) h)) [
    | inl same ↦ inl (e, same)
    | inr rest ↦ inr (subst (λ (l : List _). Contains l z) (sym (ap (λ (c : ℕ). get_or now c []) e ∙ is)) (contains_around p r y z rest))
  ]
  | inr o ↦ inr (subst (λ (l : List _). Contains l z) (sym (others o)) h)
]

-- What holds of each list and its head still does if one list was replaced and no other head changed.
pub each_set : {X : Type 0} (P : ℕ → ℕ → List X → Type 0) (end : ℕ) (hs gs : List ℕ) (lists : List (List X)) (b : ℕ) (xs : List X) → b < length lists → P b (get_or gs b end) xs → ((a : ℕ) → a ≢ b → get_or gs a end ≡ get_or hs a end)
    → ((a : ℕ) → a < length lists → a ≢ b → P a (get_or hs a end) (get_or lists a [])) → (a : ℕ) → a < length (set lists b xs) → P a (get_or gs a end) (get_or (set lists b xs) a [])
each_set P end hs gs lists b xs within now heads others a w = elim (cases_eq a b) [
  | inl is ↦ subst (λ (k : ℕ). P k (get_or gs k end) (get_or (set lists b xs) k [])) (sym is)
      (subst (λ (l : List _). P b (get_or gs b end) l) (sym (get_or-set_same lists b xs [] within)) now)
  | inr o ↦ (
      let size : length (set lists b xs) ≡ length lists = length-set lists b xs in
      subst (λ (l : List _). P a (get_or gs a end) l) (sym (get_or-set_other lists b a xs [] o))
      (subst (λ (h : ℕ). P a h (get_or lists a [])) (sym (heads a o)) (others a (omega arith) o))
      )
]

-- Each of several empty lists is empty.
pub empty_at : {X : Type 0} (n i : ℕ) → get_or {A = List X} (replicate n []) i [] ≡ []
empty_at {X = X} n i = elim (cases_lt i n) [
  | inl w ↦ get_or-replicate n i [] [] w
  | inr past ↦ get_or_past (replicate n []) i [] (let size = length-replicate {A = List X} n [] in omega arith)
]

-- What a write keeps of the element that it replaces, it keeps of each.
pub get_or_kept : {A B : Type 0} (f : A → B) (xs : List A) (n : ℕ) (x d : A) (m : ℕ) → f x ≡ f (get_or xs n d) → f (get_or (set xs n x) m d) ≡ f (get_or xs m d)
get_or_kept f [] n x d m same = refl
get_or_kept f (y ∷ xs) zero x d zero same = same
get_or_kept f (y ∷ xs) zero x d (suc m) same = refl
get_or_kept f (y ∷ xs) (suc n) x d zero same = refl
get_or_kept f (y ∷ xs) (suc n) x d (suc m) same = get_or_kept f xs n x d m same
