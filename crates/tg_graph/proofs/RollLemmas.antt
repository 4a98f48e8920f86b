-- The list of the active principals: what a test over it says, and what enrolling and retiring make of it.
use Rattle.std.proofs.Common.{◌≡◌, ◌≢◌, ℕ, suc, ◌<◌, ◌≤◌, ◌∷◌, [], ◌++◌, List, Bool, true, false, cond, not, length, map, refl, sym, ap, subst, ◌∙◌, ◌==◌, ◌||◌, inl, inr, Some, None, arith, length-append}
use Rattle.std.specs.Prelude.{Option}
use Rattle.std.specs.List.{list_any, filter}
use Rattle.std.specs.Option.{option_map}
use Rattle.std.specs.Ordering.{nat_cmp}
use Rattle.std.specs.Cmp.{nat_cmp_total, unsigned_tied}
use Rattle.std.specs.Cmp.Lexicographic.{same_text, nat_list_eq_equiv}
use Rattle.std.specs.FinMap as map
use Rattle.std.specs.FinSet as set
use Rattle.std.proofs.lemmas.Bool.{eqb-true, eq-eqb, leb-false, lt-leb, or_cases, or_left, or_right, not-true}
use Rattle.tg_lists.specs.Promise.Membership.{Contains, Distinct}
use Rattle.tg_lists.proofs.MembershipLemmas.{contains_append, contains_map}
use Rattle.tg_rights.specs.declared.kind.Kind.{Kind}
use Rattle.tg_rights.specs.declared.kind.Kind.TheVariants as kind
use Rattle.tg_rights.specs.declared.limits.TheConstants.{MAX_PRINCIPALS}
use Rattle.tg_graph.specs.declared.member.Member.{Member}
use Rattle.tg_graph.specs.declared.vertex.Vertex.{Vertex}
use Rattle.tg_graph.specs.Inner.Deciding.{IsSubjectIfNamed}
use Rattle.tg_graph.specs.Promise.Protection.{IsMember, IsRoll, MayBeNamed, Rise, has_name, has_serial, is_crowded, is_taken, same_name, with_member, without_member}

-- the tests find exactly the principals
pub any_is : {X : Type 0} (p : X → Bool) (xs : List X) → list_any p xs ≡ true → (x : X) × Contains xs x × (p x ≡ true)
any_is p [] e = absurd (cc e)
any_is p (x ∷ xs) e = elim (or_cases (p x) (list_any p xs) e) [ inl here ↦ (x, inl refl, here) | inr later ↦ let rest = any_is p xs later in (rest.0, inr rest.1, rest.2) ]

pub is_any : {X : Type 0} (p : X → Bool) (xs : List X) (x : X) → Contains xs x → p x ≡ true → list_any p xs ≡ true
is_any p [] x h e = absurd h
is_any p (y ∷ xs) x (inl is) e = or_left _ _ (ap p (sym is) ∙ e)
is_any p (y ∷ xs) x (inr h) e = or_right _ _ (is_any p xs x h e)

pub same_name-is : (a b : List ℕ) → same_name a b ≡ true → a ≡ b
same_name-is a b e = same_text a b (sym e)

pub is-same_name : (a b : List ℕ) → a ≡ b → same_name a b ≡ true
is-same_name a b e = subst (λ (c : List ℕ). same_name a c ≡ true) e (nat_list_eq_equiv.refl a)

pub member_found : (ms : List Member) (x : ℕ) → has_serial ms x ≡ true → IsMember ms x
member_found ms x e = let found = any_is (λ m. m.serial == x) ms e in (found.0, found.1, eqb-true _ _ found.2)

pub member_finds : (ms : List Member) (x : ℕ) → IsMember ms x → has_serial ms x ≡ true
member_finds ms x (m, h, is) = is_any (λ m. m.serial == x) ms m h (eq-eqb m.serial x is)

pub may_be_named : (ms : List Member) (name : Option (List ℕ)) → is_taken ms name ≡ false → is_crowded ms name ≡ false → MayBeNamed ms name
may_be_named ms None free room = tt
may_be_named ms (Some name) free room = (
  λ m h is. absurd (cc (free, is_any (λ (m : Member). same_name m.name name) ms m h (is-same_name m.name name is))),
  leb-false MAX_PRINCIPALS (length ms) room,
)

pub untrue : (b : Bool) → (b ≡ true → ⊥) → b ≡ false
untrue true h = absurd (h refl)
untrue false h = refl

pub not_taken : (ms : List Member) (name : Option (List ℕ)) → MayBeNamed ms name → is_taken ms name ≡ false
not_taken ms None h = refl
not_taken ms (Some name) h =
    untrue (has_name ms name) (λ e. let found = any_is (λ (m : Member). same_name m.name name) ms e in absurd (h.0 found.0 found.1 (same_name-is found.0.name name found.2)))

pub not_crowded : (ms : List Member) (name : Option (List ℕ)) → MayBeNamed ms name → is_crowded ms name ≡ false
not_crowded ms None h = refl
not_crowded ms (Some name) h = lt-leb MAX_PRINCIPALS (length ms) h.1

-- what is left of a list
pub contains_filter : {X : Type 0} (p : X → Bool) (xs : List X) (x : X) → Contains (filter p xs) x → Contains xs x × (p x ≡ true)
contains_filter p [] x h = absurd h
contains_filter {X} p (y ∷ xs) x h = by (contains_filter p xs x) (p y) refl h where
  by : (Contains (filter p xs) x → Contains xs x × (p x ≡ true)) → (b : Bool) → p y ≡ b → Contains (cond b (y ∷ filter p xs) (filter p xs)) x → Contains (y ∷ xs) x × (p x ≡ true)
  by rest true e (inl is) = (inl is, ap p is ∙ e)
  by rest true e (inr h) = (inr (rest h).0, (rest h).1)
  by rest false e h = (inr (rest h).0, (rest h).1)

pub filter_contains : {X : Type 0} (p : X → Bool) (xs : List X) (x : X) → Contains xs x → p x ≡ true → Contains (filter p xs) x
filter_contains p [] x h e = absurd h
filter_contains {X} p (y ∷ xs) x h e = by (λ h. filter_contains p xs x h e) (p y) refl h where
  by : (Contains xs x → Contains (filter p xs) x) → (b : Bool) → p y ≡ b → Contains (y ∷ xs) x → Contains (cond b (y ∷ filter p xs) (filter p xs)) x
  by rest true here (inl is) = inl is
  by rest true here (inr h) = inr (rest h)
  by rest false gone (inl is) = absurd (cc (gone, ap p is, e))
  by rest false gone (inr h) = rest h

rise_filter : (p : Member → Bool) (ms : List Member) → Rise ms → Rise (filter p ms)
rise_filter p [] r = tt
rise_filter p (m ∷ ms) r =
    elim (p m) as (λ b. Rise (cond b (m ∷ filter p ms) (filter p ms))) [
      | true ↦ (λ n h. r.0 n (contains_filter p ms n h).0, rise_filter p ms r.1)
      | false ↦ rise_filter p ms r.1
    ]

pub mapped : {X Y : Type 0} (f : X → Y) (xs : List X) (y : Y) → Contains (map f xs) y → (x : X) × Contains xs x × (y ≡ f x)
mapped f [] y h = absurd h
mapped f (x ∷ xs) y (inl is) = (x, inl refl, is)
mapped f (x ∷ xs) y (inr h) = let rest = mapped f xs y h in (rest.0, inr rest.1, rest.2)

apart_filter : (p : Member → Bool) (ms : List Member) → Distinct (map (λ m. m.name) ms) → Distinct (map (λ m. m.name) (filter p ms))
apart_filter p [] d = tt
apart_filter p (m ∷ ms) d =
    elim (p m) as (λ b. Distinct (map (λ m. m.name) (cond b (m ∷ filter p ms) (filter p ms)))) [
      | true ↦ (
        λ h. let found = mapped (λ (m : Member). m.name) (filter p ms) m.name h in
            d.0 (subst (Contains (map (λ m. m.name) ms)) (sym found.2) (contains_map (λ (m : Member). m.name) ms found.0 (contains_filter p ms found.0 found.1).0)),
        apart_filter p ms d.1,
      )
      | false ↦ apart_filter p ms d.1
    ]

few_filter : (p : Member → Bool) (ms : List Member) → length (filter p ms) ≤ length ms
few_filter p [] = omega arith
few_filter p (m ∷ ms) =
    let rest = few_filter p ms in
    elim (p m) as (λ b. length (cond b (m ∷ filter p ms) (filter p ms)) ≤ length (m ∷ ms)) [ true ↦ omega (arith, rest) | false ↦ omega (arith, rest) ]

-- one more at the end
rise_push : (ms : List Member) (m : Member) → Rise ms → ((n : Member) → Contains ms n → n.serial < m.serial) → Rise (ms ++ m ∷ [])
rise_push [] m r below = (λ n h. absurd h, tt)
rise_push (k ∷ ms) m r below = (
  λ n h. elim (contains_append ms (m ∷ []) n h) [
    | inl old ↦ r.0 n old
    | inr last ↦ elim last [ inl is ↦ subst (λ (q : Member). k.serial < q.serial) (sym is) (below k (inl refl)) | inr never ↦ absurd never ]
  ],
  rise_push ms m r.1 (λ n h. below n (inr h)),
)

apart_push : (ms : List Member) (m : Member) → Distinct (map (λ m. m.name) ms) → ((n : Member) → Contains ms n → n.name ≢ m.name) → Distinct (map (λ m. m.name) (ms ++ m ∷ []))
apart_push [] m d other = (λ h. absurd h, tt)
apart_push (k ∷ ms) m d other = (
  λ h. let found = mapped (λ (m : Member). m.name) (ms ++ m ∷ []) k.name h in
      elim (contains_append ms (m ∷ []) found.0 found.1) [
        | inl old ↦ d.0 (subst (Contains (map (λ m. m.name) ms)) (sym found.2) (contains_map (λ (m : Member). m.name) ms found.0 old))
        | inr last ↦ elim last [ inl is ↦ other k (inl refl) (found.2 ∙ ap (λ (m : Member). m.name) is) | inr never ↦ absurd never ]
      ],
  apart_push ms m d.1 (λ n h. other n (inr h)),
)

abbrev KindIn : map.FinMap nat_cmp Vertex → ℕ → Kind → Type 0
KindIn vs v k = option_map (λ (e : Vertex). e.kind) (map.get vs v) ≡ Some k

-- a vertex that is put has its kind, and the others keep theirs
pub kind_put : (vs : map.FinMap nat_cmp Vertex) (v : ℕ) (e : Vertex) (q : ℕ) (k : Kind) → (q ≡ v → e.kind ≡ k) → ((q ≡ v → ⊥) → KindIn vs q k) → KindIn (map.insert vs v e) q k
kind_put vs v e q k here old =
    ap (option_map (λ (e : Vertex). e.kind)) (map.get-insert nat_cmp_total vs v e q ∙ ap (λ b. cond b (Some e) (map.get vs q)) (unsigned_tied q v)) ∙ by (q == v) refl where
      by : (b : Bool) → (q == v) ≡ b → option_map (λ (e : Vertex). e.kind) (cond b (Some e) (map.get vs q)) ≡ Some k
      by true is = ap (λ k. Some k) (here (eqb-true q v is))
      by false other = old (λ is. absurd (cc (other, eq-eqb q v is)))

-- subjects stay subjects, and the next serial may only grow
pub roll-kept : (vs ws : map.FinMap nat_cmp Vertex) (n n' : ℕ) (ms : List Member) (rs : set.FinSet nat_cmp) →
    ((v : ℕ) → KindIn vs v kind.Subject → KindIn ws v kind.Subject) → n ≤ n' → IsRoll vs n ms rs → IsRoll ws n' ms rs
roll-kept vs ws n n' ms rs keeps more roll = record {
  subjects = λ m h. keeps m.serial (roll.subjects m h);
  active = roll.active;
  rising = roll.rising;
  apart = roll.apart;
  few = roll.few;
  past = λ v h. let low : v < n = roll.past v h in omega (arith, low, more);
}

-- a new vertex, above all, is a subject if it is given a name
pub roll-grown : (vs : map.FinMap nat_cmp Vertex) (n : ℕ) (ms : List Member) (rs : set.FinSet nat_cmp) (e : Vertex) (name : Option (List ℕ)) →
    ((v : ℕ) → KindIn vs v kind.Subject → v < n) → IsSubjectIfNamed e.kind name → MayBeNamed ms name → IsRoll vs n ms rs →
    IsRoll (map.insert vs n e) (suc n) (with_member ms name n) rs
roll-grown vs n ms rs e name below subject may roll = grown name subject may where
  keeps : (v : ℕ) → KindIn vs v kind.Subject → KindIn (map.insert vs n e) v kind.Subject
  keeps v h = kind_put vs n e v kind.Subject (λ is. let low : v < n = below v h in absurd (omega (arith, low, is))) (λ _. h)

  kept : IsRoll (map.insert vs n e) (suc n) ms rs
  kept = roll-kept vs (map.insert vs n e) n (suc n) ms rs keeps (omega arith) roll

  lower : (m : Member) → Contains ms m → m.serial < n
  lower m h = below m.serial (roll.subjects m h)

  free : set.contains rs n ≡ false
  free = untrue (set.contains rs n) (λ h. let low : n < n = roll.past n h in absurd (omega (arith, low)))

  grown : (name : Option (List ℕ)) → IsSubjectIfNamed e.kind name → MayBeNamed ms name → IsRoll (map.insert vs n e) (suc n) (with_member ms name n) rs
  grown None subject may = kept
  grown (Some name) subject may =
      let new : Member = record { name = name; serial = n } in
      record {
        subjects = λ m h. elim (contains_append ms (new ∷ []) m h) [
          | inl old ↦ kept.subjects m old
          | inr last ↦ elim last [
            | inl is ↦ kind_put vs n e m.serial kind.Subject (λ _. subject) (λ other. absurd (other (ap (λ (m : Member). m.serial) is)))
            | inr never ↦ absurd never
          ]
        ];
        active = λ m h. elim (contains_append ms (new ∷ []) m h) [
          | inl old ↦ roll.active m old
          | inr last ↦ elim last [ inl is ↦ ap (λ (m : Member). set.contains rs m.serial) is ∙ free | inr never ↦ absurd never ]
        ];
        rising = rise_push ms new roll.rising lower;
        apart = apart_push ms new roll.apart may.0;
        few = let low = may.1 in omega (arith, low, length-append ms (new ∷ []));
        past = kept.past;
      }

-- who retires is a principal no longer
pub roll-retired : (vs : map.FinMap nat_cmp Vertex) (n : ℕ) (ms : List Member) (rs : set.FinSet nat_cmp) (x : ℕ) → x < n → IsRoll vs n ms rs →
    IsRoll vs n (without_member ms x) (set.insert rs x)
roll-retired vs n ms rs x low roll = record {
  subjects = λ m h. roll.subjects m (kept m h).0;
  active = λ m h. set.contains-insert nat_cmp_total rs x m.serial ∙ ap (λ b. b || set.contains rs m.serial) (unsigned_tied m.serial x ∙ not-true _ (kept m h).1) ∙ roll.active m (kept m h).0;
  rising = rise_filter (λ m. not (m.serial == x)) ms roll.rising;
  apart = apart_filter (λ m. not (m.serial == x)) ms roll.apart;
  few = let less = few_filter (λ m. not (m.serial == x)) ms in let few = roll.few in omega (arith, less, few);
  past = λ v h. elim (or_cases _ _ (sym (set.contains-insert nat_cmp_total rs x v) ∙ h)) [
    | inl is ↦ let same : v ≡ x = eqb-true v x (sym (unsigned_tied v x) ∙ is) in omega (arith, low, same)
    | inr old ↦ roll.past v old
  ];
} where
  kept : (m : Member) → Contains (without_member ms x) m → Contains ms m × (not (m.serial == x) ≡ true)
  kept m h = contains_filter (λ m. not (m.serial == x)) ms m h
