-- What the graph of what is held says of the slots, and back.
use Rattle.std.proofs.Common.{◌≡◌, ℕ, zero, suc, ◌+◌, List, [], ◌∷◌, length, Option, Some, None, true, false, eqb-true, eq-eqb, sym, ◌∙◌, ap, refl, arith, get_or, set, sum_by, inl, inr}
use Rattle.tg_collect.proofs.Common.{Any-from_list_any, any_is, is_any, list_any_at, ext_get_or, get_or_default, at_within, says_slot, is_some, nat_cmp, Right, has, is_none, Contains, some_right, Triple, Edge, Spot, Kept, seen, vertex_of, Stored, kept_from, place, held, vertices, triples, IsHeldIn, IsEdgeIn, Distinct, eq_by_cmp, nat_cmp_total, unsigned_tied, find, get-from_entries, ones, sum_among, and_both, Vertex, entries, says_edge, contains-held, Member, Protection, contains_key-keys}
use Rattle.tg_graph.specs.Promise.Protection.{label}
use Rattle.std.proofs.lemmas.Bool.{cases_Bool}
use Rattle.std.specs.FinMap as finmap
use Rattle.std.specs.FinSet as finset
use Rattle.tg_collect.specs.Promise.Held as graph
use Rattle.tg_collect.specs.Promise.Readings as readings
use Rattle.tg_marking.specs.Promise.Values.{Stage}

-- What is held at an index, and after a slot was set.
from_at : (p : Stage) (k j i : ℕ) (os : List (Option Spot)) → j ≡ k + i → get_or (kept_from p k os) i None ≡ seen p j (get_or os i None)
from_at p k j i [] e = refl
from_at p k j zero (o ∷ os) e = let is : k ≡ j = omega (arith, e) in ap (λ (n : ℕ). seen p n o) is
from_at p k j (suc i) (o ∷ os) e = from_at p (suc k) j i os (omega (arith, e))

pub held_at : (v : Stored) (i : ℕ) → get_or (kept_from v.stage 0 v.slots) i None ≡ readings.kept v i
held_at v i = from_at v.stage 0 i i v.slots (omega arith)

from_set : (p : Stage) (k j i : ℕ) (os : List (Option Spot)) (o : Option Spot) → j ≡ k + i → kept_from p k (set os i o) ≡ set (kept_from p k os) i (seen p j o)
from_set p k j i [] o e = refl
from_set p k j zero (x ∷ os) o e = let is : k ≡ j = omega (arith, e) in ap (λ (n : ℕ). seen p n o ∷ kept_from p (suc k) os) is
from_set p k j (suc i) (x ∷ os) o e = ap (λ xs. seen p k x ∷ xs) (from_set p (suc k) j i os o (omega (arith, e)))

pub held_set : (p : Stage) (i : ℕ) (os : List (Option Spot)) (o : Option Spot) → kept_from p 0 (set os i o) ≡ set (kept_from p 0 os) i (seen p i o)
held_set p i os o = from_set p 0 i i os o (omega arith)

pub from_size : (p : Stage) (k : ℕ) (os : List (Option Spot)) → length (kept_from p k os) ≡ length os
from_size p k [] = refl
from_size p k (o ∷ os) = ap suc (from_size p (suc k) os)

-- Labels are the same whoever is a principal, or was one.
pub named_label : (H : Protection) (names : List Member) (retired : finset.FinSet nat_cmp) (x y : ℕ) → label (record H { names = names; retired = retired }) x y ≡ label H x y
unfolding label
named_label H names retired x y = refl

-- Slots that hold the same, hold the same graph.
pub held_same : (v w : Stored) → length w.slots ≡ length v.slots → ((i : ℕ) → readings.kept w i ≡ readings.kept v i) → (next : ℕ) → held w next ≡ held v next
held_same v w size e next = ap (λ os. graph.held os next) (ext_get_or None _ _ (from_size w.stage 0 w.slots ∙ size ∙ sym (from_size v.stage 0 v.slots)) (λ i l. held_at w i ∙ e i ∙ sym (held_at v i)))

-- A triple is a right of some edge of some slot.
pub record Owns (os : List (Option Kept)) (t : Triple) : Type 0 where
  pub at : ℕ
  pub kept : Kept
  pub is : get_or os at None ≡ Some kept
  pub edge : Edge
  pub owned : Contains kept.edges edge
  pub from : t.from ≡ kept.serial
  pub to : t.to ≡ edge.serial
  pub right : has edge.rights t.right ≡ true

slot_says : (os : List (Option Kept)) (t : Triple) (i : ℕ) (o : Option Kept) → get_or os i None ≡ o → says_slot o t ≡ true → Owns os t
slot_says os t i None is h = absurd (cc)
slot_says os t i (Some k) is h =
    let b = and_both _ _ h in
    let e = any_is _ k.edges b.1 in
    let l = and_both _ _ e.2 in
    record { at = i; kept = k; is = is; edge = e.0; owned = e.1; from = eqb-true t.from k.serial b.0; to = eqb-true t.to e.0.serial l.0; right = l.1 }

pub triple_owned : (v : Stored) (t : Triple) → finset.contains (triples v) t ≡ true → Owns (kept_from v.stage 0 v.slots) t
triple_owned v t h =
    let os = kept_from v.stage 0 v.slots in
    let r = Any-from_list_any (λ o. says_slot o t) os (sym (contains-held os 0 t) ∙ h) in
    slot_says os t r.0 r.1 (get_or_default os r.0 None r.1 r.2 ∙ r.3) r.4

-- An edge in words of serials.
pub says_triple : (v : Stored) (i : ℕ) (k : Kept) (e : Edge) (r : Right) → readings.kept v i ≡ Some k → Contains k.edges e → has e.rights r ≡ true → finset.contains (triples v) (record { from = k.serial; right = r; to = e.serial }) ≡ true
says_triple v i k e r is c h =
    let os = kept_from v.stage 0 v.slots in
    let t : Triple = record { from = k.serial; right = r; to = e.serial } in
    let there = held_at v i ∙ is in
    let says : says_edge k.edges t ≡ true = is_any _ k.edges e c (rw (eq-eqb e.serial e.serial refl) h) in
    contains-held os 0 t ∙ list_any_at (λ o. says_slot o t) os i None (at_within os i k there) (rw (there, eq-eqb k.serial k.serial refl) says)

pub edge_shown : (v : Stored) (i : ℕ) (k : Kept) (e : Edge) → readings.kept v i ≡ Some k → Contains k.edges e → is_none e.rights ≡ false → IsEdgeIn v k.serial e.serial
edge_shown v i k e is c some = let r = some_right e.rights some in (r.0, says_triple v i k e r.0 is c r.1)

pub shown_edge : (v : Stored) (x y : ℕ) → IsEdgeIn v x y → (i : ℕ) × (k : Kept) × (e : Edge) × (readings.kept v i ≡ Some k) × Contains k.edges e × (k.serial ≡ x) × (e.serial ≡ y)
shown_edge v x y h =
    let o = triple_owned v (record { from = x; right = h.0; to = y }) h.1 in
    (o.at, o.kept, o.edge, sym (held_at v o.at) ∙ o.is, o.owned, sym o.from, sym o.to)

-- Keys of the map of vertices.
pub same_key : (x k : ℕ) → eq_by_cmp nat_cmp x k ≡ true → x ≡ k
same_key x k e = eqb-true x k (sym (unsigned_tied x k) ∙ e)

pub key_same : (x k : ℕ) → x ≡ k → eq_by_cmp nat_cmp x k ≡ true
key_same x k e = unsigned_tied x k ∙ eq-eqb x k e

found_at : (os : List (Option Kept)) (q : ℕ) (u : Vertex) → find nat_cmp q (entries os) ≡ Some u → (i : ℕ) × (k : Kept) × (get_or os i None ≡ Some k) × (k.serial ≡ q) × (vertex_of k ≡ u)
found_at [] q u h = absurd (cc)
found_at (None ∷ os) q u h = let r = found_at os q u h in (suc r.0, r.1, r.2, r.3, r.4)
found_at (Some k ∷ os) q u h =
    let rest = found_at os q u in
    elim (cases_Bool (eq_by_cmp nat_cmp q k.serial)) [
      | inl e ↦ (0, k, refl, sym (same_key q k.serial e), (let a : Some (vertex_of k) ≡ Some u = rw e at h in cc))
      | inr e ↦ (let r = rest (rw e at h) in (suc r.0, r.1, r.2, r.3, r.4))
    ]

at_found : (os : List (Option Kept)) (i : ℕ) (k : Kept) → get_or os i None ≡ Some k → ((j : ℕ) (t : Kept) → get_or os j None ≡ Some t → t.serial ≡ k.serial → j ≡ i) → find nat_cmp k.serial (entries os) ≡ Some (vertex_of k)
at_found [] i k is once = absurd (cc)
at_found (o ∷ os) zero k is once = let same = key_same k.serial k.serial refl in grind arith
at_found (o ∷ os) (suc i) k is once =
    let rest = at_found os i k is (λ j t e s. let u = once (suc j) t e s in omega (arith, u)) in
    let first = once 0 in
    grind (arith, same_key)

-- No two slots hold a serial.
abbrev pub Once : Stored → Type 0
Once v = (i j : ℕ) (k t : Kept) → readings.kept v i ≡ Some k → readings.kept v j ≡ Some t → k.serial ≡ t.serial → i ≡ j

pub vertex_found : (v : Stored) (next i : ℕ) (k : Kept) → Once v → readings.kept v i ≡ Some k → finmap.get (held v next).vertices k.serial ≡ Some (vertex_of k)
vertex_found v next i k once is = get-from_entries nat_cmp_total (entries (kept_from v.stage 0 v.slots)) k.serial
    ∙ at_found (kept_from v.stage 0 v.slots) i k (held_at v i ∙ is) (λ j t e s. once j i t k (sym (held_at v j) ∙ e) is s)

pub held_kept : (v : Stored) (x : ℕ) → IsHeldIn v x → (i : ℕ) × (k : Kept) × (readings.kept v i ≡ Some k) × (k.serial ≡ x)
held_kept v x h = by (finmap.get (vertices v) x) refl h where
  by : (o : Option Vertex) → finmap.get (vertices v) x ≡ o → is_some o ≡ true → (i : ℕ) × (k : Kept) × (readings.kept v i ≡ Some k) × (k.serial ≡ x)
  by None e h = absurd (cc)
  by (Some u) e h = let r = found_at (kept_from v.stage 0 v.slots) x u (sym (get-from_entries nat_cmp_total (entries (kept_from v.stage 0 v.slots)) x) ∙ e) in (r.0, r.1, sym (held_at v r.0) ∙ r.2, r.3)

pub kept_held : (v : Stored) (i : ℕ) (k : Kept) → Once v → readings.kept v i ≡ Some k → IsHeldIn v k.serial
kept_held v i k once is = ap is_some (vertex_found v 0 i k once is)

-- A slot's serial.
pub place_kept : (v : Stored) (i x : ℕ) → place v i ≡ Some x → (k : Kept) × (readings.kept v i ≡ Some k) × (k.serial ≡ x)
place_kept v i x e = grind arith

-- Lists without repetition, their lengths and their sums.
-- Two lists without repetition that have the same elements have the same sums.
pub same_sum : {X : Type 0} (f : X → ℕ) (xs ys : List X) → Distinct xs → Distinct ys → ((x : X) → Contains xs x → Contains ys x) → ((x : X) → Contains ys x → Contains xs x) → sum_by f xs ≡ sum_by f ys
same_sum f xs ys d e to from =
    let a = sum_among f f xs ys d (λ x h. (to x h, omega arith)) in
    let b = sum_among f f ys xs e (λ y h. (from y h, omega arith)) in
    omega (arith, a, b)

pub same_length : {X : Type 0} (xs ys : List X) → Distinct xs → Distinct ys → ((x : X) → Contains xs x → Contains ys x) → ((x : X) → Contains ys x → Contains xs x) → length xs ≡ length ys
same_length xs ys d e to from = sym (ones xs) ∙ same_sum (λ x. 1) xs ys d e to from ∙ ones ys

-- The keys of a map.
pub keys_contains : {X : Type 0} (m : finmap.FinMap nat_cmp X) (x : ℕ) → Contains (finmap.keys m) x → finmap.contains_key m x ≡ true
keys_contains m x h = contains_key-keys m x ∙ is_any (eq_by_cmp nat_cmp x) (finmap.keys m) x h (key_same x x refl)
