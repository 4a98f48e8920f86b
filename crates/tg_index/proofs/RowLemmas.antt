-- Lists of numbers, and rows of them that are sound.
use Rattle.std.proofs.Common.{◌≡◌, ◌≢◌, ℕ, zero, suc, ◌+◌, ◌<◌, ◌≤◌, List, [], ◌∷◌, ◌++◌, length, Option, Some, None, inl, inr, sym, ◌∙◌, subst, ap, refl, set, get_or, cond, ltb, true, false, eqb, eq-eqb, arith, get_or-set_same, get_or-set_other, append_assoc}
use Rattle.std.proofs.lemmas.Bool.{cases_eq, cases_lt, ne_eqb, lt-ltb, le-ltb}
use Rattle.tg_lists.specs.Promise.Membership.{Contains, Distinct}
use Rattle.tg_lists.proofs.MembershipLemmas.{contains_middle, distinct_around}
use Rattle.tg_lists.proofs.NestedLemmas.{added, lost}
use Rattle.tg_index.specs.Promise.Rows.{Rows, row, first_of, IsUnheld, AreRows}

-- The numbers of a list from one of them on.
abbrev pub from : List ℕ → ℕ → List ℕ
from [] n = []
from (m ∷ ms) n = cond (eqb m n) (m ∷ ms) (from ms n)

-- What is left of a row at a cursor.
abbrev pub left : List ℕ → Option ℕ → List ℕ
left ns None = []
left ns (Some n) = from ns n

from_at : (p : List ℕ) (n : ℕ) (r : List ℕ) → Distinct (p ++ n ∷ r) → from (p ++ n ∷ r) n ≡ n ∷ r
from_at [] n r d = let test : eqb n n ≡ true = eq-eqb n n refl in rw test refl
from_at (m ∷ p) n r d =
    let other : m ≢ n = λ e. d.0 (subst (λ (x : ℕ). Contains (p ++ n ∷ r) x) (sym e) (contains_middle p r n)) in
    let test : eqb m n ≡ false = ne_eqb m n other in
    rw test (from_at p n r d.1)

-- The first number of a list.
record First (ns : List ℕ) (n : ℕ) : Type 0 where
  after : List ℕ
  is : ns ≡ n ∷ after

first_is : (ns : List ℕ) (n : ℕ) → Some n ≡ first_of ns → First ns n
first_is [] n e = absurd (cc)
first_is (m ∷ ns) n e = record { after = ns; is = (cc) }

pub none_left : (ns : List ℕ) → None ≡ first_of ns → ns ≡ []
none_left [] e = refl
none_left (n ∷ ns) e = absurd (cc)

-- A walk over a row: some numbers were passed, and the cursor is at the first of the others.
pub record Walked (ns : List ℕ) (cursor : Option ℕ) : Type 0 where
  pub passed : List ℕ
  pub rest : List ℕ
  pub is : ns ≡ passed ++ rest
  pub at : cursor ≡ first_of rest

-- The number at the cursor, and the walk after it, which has less left.
pub record WalkStep (ns passed : List ℕ) (n : ℕ) : Type 0 where
  pub after : List ℕ
  pub is : ns ≡ passed ++ n ∷ after
  pub on : ns ≡ (passed ++ n ∷ []) ++ after
  pub less : length (left ns (first_of after)) < length (left ns (Some n))

left_after : (p r : List ℕ) → Distinct (p ++ r) → length (left (p ++ r) (first_of r)) ≤ length r
left_after p [] d = omega arith
left_after p (n ∷ r) d = let is = ap length (from_at p n r d) in omega (arith, is)

pub walk_step : (ns : List ℕ) (n : ℕ) (w : Walked ns (Some n)) → Distinct ns → WalkStep ns w.passed n
walk_step ns n w d =
    let f = first_is w.rest n w.at in
    let is : ns ≡ w.passed ++ n ∷ f.after = w.is ∙ ap (λ (l : List ℕ). w.passed ++ l) f.is in
    let on : ns ≡ (w.passed ++ n ∷ []) ++ f.after = is ∙ sym (append_assoc w.passed (n ∷ []) f.after) in
    let here : from ns n ≡ n ∷ f.after = ap (λ (l : List ℕ). from l n) is ∙ from_at w.passed n f.after (subst (λ (l : List ℕ). Distinct l) is d) in
    let size = ap length here in
    let rest = left_after (w.passed ++ n ∷ []) f.after (subst (λ (l : List ℕ). Distinct l) on d) in
    let same = ap (λ (l : List ℕ). length (left l (first_of f.after))) on in
    record { after = f.after; is = is; on = on; less = omega (arith, size, rest, same) }

-- The number at the cursor is in the row.
pub at_cursor : (ns : List ℕ) (n : ℕ) → Walked ns (Some n) → Contains ns n
at_cursor ns n w =
    let f = first_is w.rest n w.at in
    subst (λ (l : List ℕ). Contains l n) (sym (w.is ∙ ap (λ (l : List ℕ). w.passed ++ l) f.is)) (contains_middle w.passed f.after n)

-- A row that was replaced, and the others.
row_same : (lists : List (List ℕ)) (b : ℕ) (ns : List ℕ) → b < length lists → row (set lists b ns) b ≡ ns
row_same lists b ns w = get_or-set_same lists b ns [] w

row_other : (lists : List (List ℕ)) (a b : ℕ) (ns : List ℕ) → a ≢ b → row (set lists b ns) a ≡ row lists a
row_other lists a b ns o = get_or-set_other lists b a ns [] o

pub sound-put : (r : Rows) (b n : ℕ) → b < length r.lists → IsUnheld r.lists n → n ≤ r.used → n < r.size → AreRows r
    → AreRows (record r { lists = set r.lists b (n ∷ row r.lists b); used = cond (ltb n r.used) r.used (r.used + 1) })
sound-put r b n w unheld fits within k = record {
  once = λ a. elim (cases_eq a b) [
    | inl is ↦ subst (λ (c : ℕ). Distinct (row (set r.lists b (n ∷ row r.lists b)) c)) (sym is) (subst (λ (l : List ℕ). Distinct l) (sym (row_same r.lists b (n ∷ row r.lists b) w)) (unheld b, k.once b))
    | inr o ↦ subst (λ (l : List ℕ). Distinct l) (sym (row_other r.lists a b (n ∷ row r.lists b) o)) (k.once a)
  ];
  one_row = λ a c m h g. elim (added r.lists b n a m w h) [
    | inl new ↦ elim (added r.lists b n c m w g) [ inl new' ↦ new.0 ∙ sym new'.0 | inr old ↦ absurd (unheld c (subst (λ (x : ℕ). Contains (row r.lists c) x) new.1 old)) ]
    | inr old ↦ elim (added r.lists b n c m w g) [ inl new ↦ absurd (unheld a (subst (λ (x : ℕ). Contains (row r.lists a) x) new.1 old)) | inr old' ↦ k.one_row a c m old old' ]
  ];
  used = λ a m h. elim (added r.lists b n a m w h) [
    | inl new ↦ (let is = new.1 in elim (cases_lt n r.used) [ inl less ↦ rw (lt-ltb n r.used less) (omega arith) | inr past ↦ rw (le-ltb n r.used past) (omega arith) ])
    | inr old ↦ (let below = k.used a m old in elim (cases_lt n r.used) [ inl less ↦ rw (lt-ltb n r.used less) (omega arith) | inr past ↦ rw (le-ltb n r.used past) (omega arith) ])
  ];
  room = (let room = k.room in elim (cases_lt n r.used) [ inl less ↦ rw (lt-ltb n r.used less) (omega arith) | inr past ↦ rw (le-ltb n r.used past) (omega arith) ]);
}

pub sound-take : (v : Rows) (b n : ℕ) (p r : List ℕ) → b < length v.lists → row v.lists b ≡ p ++ n ∷ r → AreRows v → AreRows (record v { lists = set v.lists b (p ++ r) })
sound-take v b n p r w is k = record {
  once = λ a. elim (cases_eq a b) [
    | inl e ↦ subst (λ (c : ℕ). Distinct (row (set v.lists b (p ++ r)) c)) (sym e)
        (subst (λ (l : List ℕ). Distinct l) (sym (row_same v.lists b (p ++ r) w)) (distinct_around p r n (subst (λ (l : List ℕ). Distinct l) is (k.once b))).0)
    | inr o ↦ subst (λ (l : List ℕ). Distinct l) (sym (row_other v.lists a b (p ++ r) o)) (k.once a)
  ];
  one_row = λ a c m h g. k.one_row a c m (lost v.lists b n p r a m w is h) (lost v.lists b n p r c m w is g);
  used = λ a m h. k.used a m (lost v.lists b n p r a m w is h);
  room = k.room;
}

-- A number that has left its row is in none.
pub taken_unheld : (v : Rows) (b n : ℕ) (p r : List ℕ) → b < length v.lists → row v.lists b ≡ p ++ n ∷ r → AreRows v → IsUnheld (set v.lists b (p ++ r)) n
taken_unheld v b n p r w is k a h =
    let held : Contains (row v.lists b) n = subst (λ (l : List ℕ). Contains l n) (sym is) (contains_middle p r n) in
    let at : a ≡ b = k.one_row a b n (lost v.lists b n p r a n w is h) held in
    let all : row (set v.lists b (p ++ r)) a ≡ p ++ r = ap (λ (c : ℕ). row (set v.lists b (p ++ r)) c) at ∙ row_same v.lists b (p ++ r) w in
    (distinct_around p r n (subst (λ (l : List ℕ). Distinct l) is (k.once b))).1 (subst (λ (l : List ℕ). Contains l n) all h)

-- A list with an element in it is one of the lists.
pub held_within : {X : Type 0} (lists : List (List X)) (b : ℕ) (x : X) → Contains (get_or lists b []) x → b < length lists
held_within [] b x h = absurd h
held_within (l ∷ lists) zero x h = omega arith
held_within (l ∷ lists) (suc b) x h = let rest = held_within lists b x h in omega arith
