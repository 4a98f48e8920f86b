-- A walk through entries and serials that both rise, what it keeps, and the graph that is left.
use Rattle.std.proofs.Common.{◌≡◌, ℕ, ◌<◌, ◌≤◌, ◌∷◌, [], List, Bool, true, false, true≢false, cond, filter, refl, sym, ap, subst, ◌∙◌, ◌==◌, ◌&&◌, ◌||◌, None, inl, inr, arith}
use Rattle.std.specs.Prelude.{◌↔◌, nat_le}
use Rattle.std.specs.BTreeMap as tree
use Rattle.std.specs.Cmp.{nat_cmp_total, ranked, unsigned_tied}
use Rattle.std.specs.FinMap as map
use Rattle.std.specs.FinSet as set
use Rattle.std.specs.List.{AllByRecursion, list_any}
use Rattle.std.specs.List.Sorted.{IsStrictlySortedBy}
use Rattle.std.specs.Map.{keys_of, lookup}
use Rattle.std.specs.Map.Calls.{RetainsPairs}
use Rattle.std.specs.Option.{is_some, option_map, unwrap_or}
use Rattle.std.specs.Ordering.{eq_by_cmp, nat_cmp, ordering_then}
use Rattle.std.specs.declared.cmp.Ordering.{Ordering}
use Rattle.std.specs.declared.cmp.Ordering.TheVariants.{Less, Equal, Greater}
use Rattle.std.proofs.lemmas.Bool.{eqb-true, eq-eqb, leb-false, leb-true}
use Rattle.std.proofs.lemmas.Map.Entries.{lookup-filter-keys}
use Rattle.tg_lists.specs.Promise.Membership.{Contains}
use Rattle.tg_rights.specs.Promise.Letters.{has, is_none, none}
use Rattle.tg_rights.proofs.LettersLemmas.{right_some}
use Rattle.tg_graph.specs.declared.member.Member.{Member}
use Rattle.tg_graph.specs.declared.vertex.Vertex.{Vertex}
use Rattle.tg_graph.specs.Promise.Parts.{Rises}
use Rattle.tg_graph.specs.Promise.Protection.{IsClosed, IsGraph, IsRestriction, IsVertex, Protection, Triple, has_retired, label, vertex}
use Rattle.tg_graph.specs.Promise.Views.{label_at, pair_cmp}
use Rattle.tg_graph.specs.Inner.Restricting.{begins_with, is_among, is_vertex_in, without_below}
use Rattle.tg_graph.specs.Inner.Views.{protection_of}
use Rattle.tg_graph.proofs.LabelLemmas.{Labels, contains-label}
use Rattle.tg_graph.proofs.PartsLemmas.{same_bool, same_label, same_option}
use Rattle.tg_graph.proofs.ProtectionLemmas.{edge_from}
use Rattle.tg_graph.proofs.RollLemmas.{any_is, contains_filter, filter_contains, is_any, untrue}
use Rattle.tg_graph.proofs.TriplesLemmas.{same_triples}
use Rattle.tg_graph.proofs.VertexLemmas.{Entries}
use Rattle.tg_graph.proofs.ViewsLemmas.{label-shown, pair_tied, vertex-shown}

-- ---- serials that rise

among : (ks : List ℕ) (x : ℕ) → Contains ks x → is_among ks x ≡ true
among ks x h = is_any (λ k. k == x) ks x h (eq-eqb x x refl)

is_there : (ks : List ℕ) (x : ℕ) → is_among ks x ≡ true → Contains ks x
is_there ks x e = let one = any_is (λ k. k == x) ks e in subst (Contains ks) (eqb-true one.0 x one.2) one.1

-- those below x are not x, nor anything above
skipped : (ks : List ℕ) (x y : ℕ) → x ≤ y → is_among (without_below ks x) y ≡ is_among ks y
skipped [] x y up = refl
skipped (k ∷ ks) x y up = by (nat_le x k) refl (skipped ks x y up) where
  by : (b : Bool) → nat_le x k ≡ b → is_among (without_below ks x) y ≡ is_among ks y → is_among (cond b (k ∷ ks) (without_below ks x)) y ≡ ((k == y) || is_among ks y)
  by true is later = refl
  by false is later =
      let low : k < x = leb-false x k is in
      later ∙ ap (λ b. b || is_among ks y) (sym (untrue (k == y) (λ t. let same : k ≡ y = eqb-true k y t in absurd (omega (arith, low, up, same)))))

still_rise : (ks : List ℕ) (x : ℕ) → Rises (λ v w. v < w) ks → Rises (λ v w. v < w) (without_below ks x)
still_rise [] x r = tt
still_rise (k ∷ ks) x r = by (nat_le x k) (still_rise ks x r.1) where
  by : (b : Bool) → Rises (λ v w. v < w) (without_below ks x) → Rises (λ v w. v < w) (cond b (k ∷ ks) (without_below ks x))
  by true later = r
  by false later = later

-- without those below x, x is the first, if it is there
comes_first : (ks : List ℕ) (x : ℕ) → Rises (λ v w. v < w) ks → begins_with (without_below ks x) x ≡ is_among ks x
comes_first [] x r = refl
comes_first (k ∷ ks) x r = by (nat_le x k) refl (comes_first ks x r.1) where
  here : (b : Bool) → (k == x) ≡ b → x ≤ k → (b || is_among ks x) ≡ true → b ≡ true
  here true is up t = refl
  here false is up t = let low : k < x = r.0 x (is_there ks x t) in absurd (omega (arith, low, up))

  by : (b : Bool) → nat_le x k ≡ b → begins_with (without_below ks x) x ≡ is_among ks x → begins_with (cond b (k ∷ ks) (without_below ks x)) x ≡ ((k == x) || is_among ks x)
  by false is later =
      let low : k < x = leb-false x k is in
      later ∙ ap (λ b. b || is_among ks x) (sym (untrue (k == x) (λ t. let same : k ≡ x = eqb-true k x t in absurd (omega (arith, low, same)))))
  by true is later =
      same_bool (k == x) ((k == x) || is_among ks x) (λ t. ap (λ b. b || is_among ks x) t) (here (k == x) refl (leb-true x k is))

-- ---- a walk through entries whose serials rise

same_filter : {X : Type 0} (p q : X → Bool) (xs : List X) → ((x : X) → Contains xs x → p x ≡ q x) → filter p xs ≡ filter q xs
same_filter p q [] same = refl
same_filter p q (x ∷ xs) same = λ i. cond (same x (inl refl) i) (x ∷ same_filter p q xs (λ y h. same y (inr h)) i) (same_filter p q xs (λ y h. same y (inr h)) i)

-- each call passes the serials below its key's, and says if the next one is the key's
module _ {F K X : Type 0} (T : F → K → X → Bool → X → F → Type 0) (left : F → List ℕ) (serial : K → ℕ)
    (told : (f : F) (k : K) (v : X) (b : Bool) (w : X) (g : F) → T f k v b w g → (b ≡ begins_with (without_below (left f) (serial k)) (serial k)) × (w ≡ v) × (left g ≡ without_below (left f) (serial k))) where
  pub walked : (f : F) (es kept : List (K × X)) → Rises (λ v w. v < w) (left f) → Rises (λ d e. serial d.0 ≤ serial e.0) es → RetainsPairs T f es kept → kept ≡ filter (λ e. is_among (left f) (serial e.0)) es
  walked f [] kept rise up done = done
  walked f (e ∷ es) kept rise up (b, w, g, rest, call, later, is) =
      let t = told f e.0 e.1 b w g call in
      let x = serial e.0 in
      let on : Rises (λ v w. v < w) (left g) = subst (Rises (λ v w. v < w)) (sym t.2) (still_rise (left f) x rise) in
      let there : rest ≡ filter (λ d. is_among (left f) (serial d.0)) es =
      walked g es rest on up.1 later
      ∙ same_filter (λ d. is_among (left g) (serial d.0)) (λ d. is_among (left f) (serial d.0)) es (λ d h. ap (λ ks. is_among ks (serial d.0)) t.2 ∙ skipped (left f) x (serial d.0) (up.0 d h)) in
      is ∙ (λ i. cond ((t.0 ∙ comes_first (left f) x rise) i) ((e.0, t.1 i) ∷ there i) (there i))

module _ {K X : Type 0} (cmp : K → K → Ordering) (serial : K → ℕ) (up : (j k : K) → cmp j k ≡ Less → serial j ≤ serial k) where
  above : (k : K) (es : List (K × X)) → AllByRecursion (λ q. cmp k q ≡ Less) (keys_of es) → (e : K × X) → Contains es e → serial k ≤ serial e.0
  above k [] all e h = absurd h
  above k (d ∷ es) all e (inl is) = up k e.0 (subst (λ (c : K × X). cmp k c.0 ≡ Less) (sym is) all.0)
  above k (d ∷ es) all e (inr h) = above k es all.1 e h

  pub keys_rise : (es : List (K × X)) → IsStrictlySortedBy cmp (keys_of es) → Rises (λ d e. serial d.0 ≤ serial e.0) es
  unfolding IsStrictlySortedBy
  keys_rise [] sorted = tt
  keys_rise (e ∷ es) sorted = (above e.0 es sorted.0, keys_rise es sorted.1)

pub serial_up : (j k : ℕ) → nat_cmp j k ≡ Less → j ≤ k
serial_up j k e = let low : j < k = ranked j k Less (sym e) in omega (arith, low)

pub ends_up : (p q : ℕ × ℕ) → pair_cmp p q ≡ Less → p.0 ≤ q.0
ends_up p q e = by (nat_cmp p.0 q.0) refl e where
  by : (o : Ordering) → nat_cmp p.0 q.0 ≡ o → ordering_then o (nat_cmp p.1 q.1) ≡ Less → p.0 ≤ q.0
  by Less is e = serial_up p.0 q.0 is
  by Equal is e = let same : p.0 ≡ q.0 = ranked p.0 q.0 Equal (sym is) in omega (arith, same)
  by Greater is e = absurd (cc e)

-- ---- the graph of the entries that are kept

module _ (vs ws : Entries) (es fs : Labels) (ms : List Member) (rs ss : List ℕ) (n : ℕ) (kept : List ℕ)
    (g : IsGraph (protection_of vs es n ms rs)) (closed : IsClosed (protection_of vs es n ms rs) (Contains kept))
    (vertices_are : ws ≡ filter (λ e. is_among kept e.0) vs) (labels_are : fs ≡ filter (λ e. is_among kept e.0.0) es)
    (retired_are : ss ≡ filter (λ x. is_vertex_in ws x) rs) where
  abbrev G : Protection
  G = protection_of vs es n ms rs

  abbrev H : Protection
  H = protection_of ws fs n ms ss

  vertex_at : (v : ℕ) → vertex H v ≡ cond (is_among kept v) (vertex G v) None
  vertex_at v =
      vertex-shown H ws v refl
      ∙ ap (lookup (tree.is_at (nat_cmp v))) vertices_are
      ∙ lookup-filter-keys (tree.is_at (nat_cmp v)) (is_among kept) (is_among kept v) (λ k t. ap (is_among kept) (sym (eqb-true v k (sym (unsigned_tied v k) ∙ t)))) vs
      ∙ ap (λ o. cond (is_among kept v) o None) (sym (vertex-shown G vs v refl))

  label_is : (x y : ℕ) → label H x y ≡ cond (is_among kept x) (label G x y) none
  label_is x y =
      label-shown H fs x y refl
      ∙ ap (λ (l : Labels). label_at l x y) labels_are
      ∙ ap (λ o. unwrap_or o none) (lookup-filter-keys (tree.is_at (pair_cmp (x, y))) (λ (p : ℕ × ℕ). is_among kept p.0) (is_among kept x) same es)
      ∙ by (is_among kept x)
      ∙ ap (λ l. cond (is_among kept x) l none) (sym (label-shown G es x y refl)) where
        same : (q : ℕ × ℕ) → tree.is_at (pair_cmp (x, y)) q ≡ true → is_among kept q.0 ≡ is_among kept x
        same q t = ap (is_among kept) (sym (eqb-true x q.0 (left_true _ _ (sym (pair_tied (x, y) q) ∙ t)))) where
          left_true : (a b : Bool) → (a && b) ≡ true → a ≡ true
          left_true true b t = refl
          left_true false b t = absurd (cc t)

        by : (b : Bool) → unwrap_or (cond b (lookup (tree.is_at (pair_cmp (x, y))) es) None) none ≡ cond b (label_at es x y) none
        by true = refl
        by false = refl

  known : (v : ℕ) → IsVertex H v → (Contains kept v) × (vertex G v ≡ vertex H v)
  known v h = by (is_among kept v) refl where
    by : (b : Bool) → is_among kept v ≡ b → (Contains kept v) × (vertex G v ≡ vertex H v)
    by true is = (is_there kept v is, sym (vertex_at v ∙ ap (λ b. cond b (vertex G v) None) is))
    by false is = absurd (true≢false (sym (h) ∙ ap is_some (vertex_at v ∙ ap (λ b. cond b (vertex G v) None) is)))

  stays : (v : ℕ) → Contains kept v → vertex H v ≡ vertex G v
  stays v h = vertex_at v ∙ ap (λ b. cond b (vertex G v) None) (among kept v h)

  is_vertex : (v : ℕ) → Contains kept v → IsVertex H v
  is_vertex v h = ap is_some (stays v h) ∙ closed.vertices v h

  labelled : (v w : ℕ) → Contains kept v → label G v w ≡ label H v w
  labelled v w h = sym (label_is v w ∙ ap (λ b. cond b (label G v w) none) (among kept v h))

  gone : (v : ℕ) → (has_retired H v ≡ true) ↔ (IsVertex H v × (has_retired G v ≡ true))
  gone v = (
    λ t.
        let one = any_is (eq_by_cmp nat_cmp v) ss (sym (set.contains-from_list nat_cmp_total ss v) ∙ t) in
        let same : v ≡ one.0 = eqb-true v one.0 (sym (unsigned_tied v one.0) ∙ one.2) in
        let both = contains_filter (λ x. is_vertex_in ws x) rs v (subst (Contains (filter (λ x. is_vertex_in ws x) rs)) (sym same) (subst (λ l. Contains l one.0) retired_are one.1)) in
        (ap is_some (vertex-shown H ws v refl) ∙ both.1, set.contains-from_list nat_cmp_total rs v ∙ listed rs v both.0),
    λ h.
        let one = any_is (eq_by_cmp nat_cmp v) rs (sym (set.contains-from_list nat_cmp_total rs v) ∙ h.1) in
        let same : v ≡ one.0 = eqb-true v one.0 (sym (unsigned_tied v one.0) ∙ one.2) in
        let there = filter_contains (λ x. is_vertex_in ws x) rs v (subst (Contains rs) (sym same) one.1) (ap is_some (sym (vertex-shown H ws v refl)) ∙ h.0) in
        set.contains-from_list nat_cmp_total ss v ∙ listed ss v (subst (λ l. Contains l v) (sym retired_are) there),
  ) where
    listed : (l : List ℕ) (v : ℕ) → Contains l v → list_any (eq_by_cmp nat_cmp v) l ≡ true
    listed l v h = is_any (eq_by_cmp nat_cmp v) l v h (unsigned_tied v v ∙ eq-eqb v v refl)

  pub is_restricted : IsRestriction G H (Contains kept)
  unfolding label
  is_restricted = record {
    kept = λ v. (λ h. (known v h).0, λ h. is_vertex v h);
    part = record {
      vertices = λ v h. (known v h).1;
      labels = λ v w h. labelled v w (known v h).0;
      closed = λ v w h e. is_vertex w (closed.step v w (known v h).0 e);
      names = refl;
      retired = refl;
    };
    retired = gone;
    next = refl;
  }

  -- a triple of it is one of the graph's, from a vertex that is kept
  triple_kept : (t : Triple) → set.contains H.triples t ≡ true → (Contains kept t.from) × (set.contains G.triples t ≡ true)
  triple_kept t h = by (is_among kept t.from) refl where
    there : has (label H t.from t.to) t.right ≡ true
    there = sym (contains-label H t) ∙ h

    by : (b : Bool) → is_among kept t.from ≡ b → (Contains kept t.from) × (set.contains G.triples t ≡ true)
    by true is = let k = is_there kept t.from is in (k, contains-label G t ∙ ap (λ l. has l t.right) (labelled t.from t.to k) ∙ there)
    by false is = absurd (cc (sym (right_some (label H t.from t.to) t.right there), ap is_none (label_is t.from t.to ∙ ap (λ b. cond b (label G t.from t.to) none) is)))

  pub restricted_graph : IsGraph H
  restricted_graph = record {
    below_next = λ v h. g.below_next v (closed.vertices v (known v h).0);
    from_vertex = λ t h. is_vertex t.from (triple_kept t h).0;
    to_vertex = λ t h.
        let both = triple_kept t h in
        is_vertex t.to (closed.step t.from t.to both.0 (right_some (label G t.from t.to) t.right (sym (contains-label G t) ∙ both.1)));
    distinct = λ t h. g.distinct t (triple_kept t h).1;
    roll = record {
      subjects = λ m h. ap (option_map (λ (e : Vertex). e.kind)) (stays m.serial (closed.principals m h)) ∙ g.roll.subjects m h;
      active = λ m h. untrue _ (λ t. true≢false (sym ((gone m.serial).0 t).1 ∙ g.roll.active m h));
      rising = g.roll.rising;
      apart = g.roll.apart;
      few = g.roll.few;
      past = λ v t. g.roll.past v ((gone v).0 t).1;
    };
  }

-- ---- a graph has one restriction to some vertices

pub one_restriction : (G H K : Protection) (IsKept : ℕ → Type 0) → IsGraph H → IsGraph K → IsRestriction G H IsKept → IsRestriction G K IsKept → H ≡ K
unfolding label
one_restriction G H K IsKept h k in_H in_K = λ i. record { vertices = vertices i; next = (in_H.next ∙ sym in_K.next) i; triples = triples i; names = (sym in_H.part.names ∙ in_K.part.names) i; retired = retired i } where
  over : (v : ℕ) → IsVertex H v → IsVertex K v
  over v at = (in_K.kept v).1 ((in_H.kept v).0 at)

  back : (v : ℕ) → IsVertex K v → IsVertex H v
  back v at = (in_H.kept v).1 ((in_K.kept v).0 at)

  vertices : H.vertices ≡ K.vertices
  vertices = map.same_map nat_cmp_total map.nat_cmp-IsAntisymmetric _ _ (λ v.
      same_option (vertex H v) (vertex K v)
      (λ e is. sym (in_K.part.vertices v (over v (ap is_some is))) ∙ in_H.part.vertices v (ap is_some is) ∙ is)
      (λ e is. sym (in_H.part.vertices v (back v (ap is_some is))) ∙ in_K.part.vertices v (ap is_some is) ∙ is))

  labels : (x y : ℕ) → label H x y ≡ label K x y
  labels x y = same_label (label H x y) (label K x y)
      (λ some. let at = edge_from H h x y some in sym (in_H.part.labels x y at) ∙ in_K.part.labels x y (over x at))
      (λ some. let at = edge_from K k x y some in sym (in_K.part.labels x y at) ∙ in_H.part.labels x y (back x at))

  triples : H.triples ≡ K.triples
  triples = same_triples _ _ (λ t. contains-label H t ∙ ap (λ l. has l t.right) (labels t.from t.to) ∙ sym (contains-label K t))

  retired : H.retired ≡ K.retired
  retired = set.same_set nat_cmp_total set.nat_cmp-IsAntisymmetric _ _ (λ v.
      same_bool (has_retired H v) (has_retired K v)
      (λ t. let both = (in_H.retired v).0 t in (in_K.retired v).1 (over v both.0, both.1))
      (λ t. let both = (in_K.retired v).0 t in (in_H.retired v).1 (back v both.0, both.1)))
