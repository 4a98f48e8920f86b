-- The serials of the active principals, in the list of their names and in a store.
use Rattle.std.proofs.Common.{◌≡◌, ℕ, suc, ◌+◌, ◌<◌, List, [], ◌∷◌, ◌++◌, length, map, Bool, true, false, not, cond, ◌==◌, refl, sym, ap, subst, ◌∙◌, inl, inr, Some, None, append_assoc, append-nil, arith}
use Rattle.std.specs.Prelude.{Option}
use Rattle.std.specs.List.{filter}
use Rattle.std.proofs.lemmas.Bool.{eqb-true, eq-eqb, or_cases, or_left, or_right}
use Rattle.tg_lists.specs.Promise.Membership.{Contains}
use Rattle.tg_lists.proofs.MembershipLemmas.{map_append}
use Rattle.tg_rights.specs.declared.limits.TheConstants.{MAX_PRINCIPALS}
use Rattle.tg_rights.specs.Promise.Letters.{Letters}
use Rattle.tg_graph.specs.declared.config.Config.{Config}
use Rattle.tg_graph.specs.declared.member.Member.{Member}
use Rattle.tg_graph.specs.Promise.Protection.{MayBeNamed, has_serial, same_name, serial_of, with_member, without_member}
use Rattle.tg_graph.specs.Promise.Opening.{first_members, opening, principal_count}
use Rattle.tg_collect.specs.declared.machine.Root.{Root}
use Rattle.tg_collect.specs.Promise.Stored.{Stored}
use Rattle.tg_collect.specs.Promise.Readings.{principals}
use Rattle.tg_collect.specs.Promise.Sessions.{PrincipalStored, Retired}
use Rattle.tg_collect.specs.Promise.Openings.{first_serials}
use Rattle.tg_vault.specs.Inner.CarriedOut.{HasPlace}
use Rattle.tg_vault.specs.Promise.Seen.{serials}

-- a principal is one of those listed
pub listed : (ms : List Member) (x : ℕ) → Contains (serials ms) x → has_serial ms x ≡ true
listed [] x h = absurd h
listed (m ∷ ms) x (inl is) = or_left _ _ (eq-eqb m.serial x (sym is))
listed (m ∷ ms) x (inr h) = or_right _ _ (listed ms x h)

pub is_listed : (ms : List Member) (x : ℕ) → has_serial ms x ≡ true → Contains (serials ms) x
is_listed [] x e = absurd (cc e)
is_listed (m ∷ ms) x e = elim (or_cases (m.serial == x) (has_serial ms x) e) [ inl here ↦ inl (sym (eqb-true m.serial x here)) | inr later ↦ inr (is_listed ms x later) ]

-- whoever has a name is a principal
pub named_active : (ms : List Member) (name : List ℕ) (x : ℕ) → serial_of ms name ≡ Some x → has_serial ms x ≡ true
named_active [] name x is = absurd (cc is)
named_active (m ∷ ms) name x is = by (same_name m.name name) is (named_active ms name x) where
  by : (b : Bool) → cond b (Some m.serial) (serial_of ms name) ≡ Some x → (serial_of ms name ≡ Some x → has_serial ms x ≡ true) → has_serial (m ∷ ms) x ≡ true
  by true here rest = let same : m.serial ≡ x = cc here in or_left _ _ (eq-eqb m.serial x same)
  by false later rest = or_right _ _ (rest later)

-- what is left without one serial
map_without : {X : Type 0} (f : X → ℕ) (x : ℕ) (xs : List X) → map f (filter (λ y. not (f y == x)) xs) ≡ filter (λ n. not (n == x)) (map f xs)
map_without f x [] = refl
map_without {X} f x (y ∷ ys) = by (not (f y == x)) (map_without f x ys) where
  by : (b : Bool) → map f (filter (λ z. not (f z == x)) ys) ≡ filter (λ n. not (n == x)) (map f ys) →
      map f (cond b (y ∷ filter (λ z. not (f z == x)) ys) (filter (λ z. not (f z == x)) ys)) ≡ cond b (f y ∷ filter (λ n. not (n == x)) (map f ys)) (filter (λ n. not (n == x)) (map f ys))
  by true same = ap (λ (ns : List ℕ). f y ∷ ns) same
  by false same = same

length_serials : (ms : List Member) → length (serials ms) ≡ length ms
length_serials [] = refl
length_serials (m ∷ ms) = ap suc (length_serials ms)

-- who comes and who goes is the same in both lists
module _ (v w : Stored) (ms : List Member) (same : principals v ≡ serials ms) where
  pub serials_pushed : (seat x serial : ℕ) (text : List ℕ) (rights : Letters) (name : List ℕ) → PrincipalStored v w seat x serial text rights → principals w ≡ serials (with_member ms (Some name) serial)
  serials_pushed seat x serial text rights name stored =
      ap (λ (z : Stored). principals z) stored.is
      ∙ map_append (λ (r : Root). r.serial) stored.between.roots.principals (record { serial = serial; slot = stored.vertex.new } ∷ [])
      ∙ ap (λ (xs : List ℕ). xs ++ serial ∷ []) (ap (λ (z : Stored). principals z) stored.vertex.is ∙ same)
      ∙ sym (map_append (λ (m : Member). m.serial) ms (record { name = name; serial = serial } ∷ []))

  pub serials_left : (x : ℕ) → Retired v w x → principals w ≡ serials (without_member ms x)
  serials_left x retired =
      ap (λ (z : Stored). principals z) retired
      ∙ map_without (λ (r : Root). r.serial) x v.roots.principals
      ∙ ap (filter (λ n. not (n == x))) same
      ∙ sym (map_without (λ (m : Member). m.serial) x ms)

-- there is room where a name may be given
pub has_room : (v : Stored) (ms : List Member) → principals v ≡ serials ms → (name : Option (List ℕ)) → MayBeNamed ms name → HasPlace (principals v) name
has_room v ms same None may = tt
has_room v ms same (Some name) may = subst (λ (n : ℕ). n < MAX_PRINCIPALS) (sym (length_serials ms) ∙ sym (ap length same)) may.1

-- the principals of an opening are counted from 1 on
counted_from : (k : ℕ) (names : List (List ℕ)) → first_serials k ++ serials (first_members (suc k) names) ≡ first_serials (k + length names)
counted_from k [] = append-nil (first_serials k) ∙ ap first_serials (let e : k ≡ k + 0 = omega arith in e)
counted_from k (name ∷ names) =
    sym (append_assoc (first_serials k) (suc k ∷ []) (serials (first_members (suc (suc k)) names)))
    ∙ counted_from (suc k) names
    ∙ ap first_serials (let e : suc k + length names ≡ k + suc (length names) = omega arith in e)

pub opening_serials : (c : Config) → serials (opening c).names ≡ first_serials (principal_count c)
unfolding opening
opening_serials c = counted_from 0 c.principals.items ∙ ap first_serials (let e : 0 + length c.principals.items ≡ length c.principals.items = omega arith in e)
