-- The graph that lists make, and that lists have exactly what one graph has.
use Rattle.std.proofs.Common.{◌≡◌, ℕ, ◌<◌, ◌≤◌, ◌∷◌, [], List, Bool, true, false, length, map, refl, sym, ap, subst, ◌∙◌, Some, None, arith}
use Rattle.std.specs.Prelude.{Option}
use Rattle.std.specs.List.{list_any}
use Rattle.std.specs.List.Sorted.{IsNonDecreasingBy, IsPermutation}
use Rattle.std.specs.Option.{is_some, option_map, unwrap_or}
use Rattle.std.specs.Ordering.{eq_by_cmp, nat_cmp}
use Rattle.std.specs.Cmp.{nat_cmp_total, on_total, then_total, unsigned_tied}
use Rattle.std.specs.Cmp.Lexicographic.{nat_list_eq_equiv}
use Rattle.std.specs.FinMap as finmap
use Rattle.std.specs.FinSet as set
use Rattle.std.specs.Map.{lookup}
use Rattle.std.specs.BTreeMap as tree
use Rattle.std.proofs.lemmas.Bool.{eqb-true, eq-eqb}
use Rattle.std.proofs.lemmas.Map.Lookups.{exact_pairs, exact_unsigned}
use Rattle.std.proofs.lemmas.List.Sorted.{IsPermutation-map, IsPermutation-sym, length_permutation}
use Rattle.tg_lists.specs.Promise.Membership.{Contains, Distinct}
use Rattle.tg_lists.proofs.MembershipLemmas.{contains_map}
use Rattle.tg_rights.specs.Promise.Letters.{Letters, has, is_none, none}
use Rattle.tg_rights.specs.declared.kind.Kind.TheVariants as kind
use Rattle.tg_rights.specs.declared.limits.TheConstants.{MAX_PRINCIPALS}
use Rattle.tg_rights.proofs.LettersLemmas.{is_none-none, right_some}
use Rattle.tg_graph.specs.declared.member.Member.{Member}
use Rattle.tg_graph.specs.declared.parts.Parts.{Parts}
use Rattle.tg_graph.specs.declared.vertex.Vertex.{Vertex}
use Rattle.tg_graph.specs.Promise.Protection.{same_name, IsEdge, IsGraph, IsVertex, Protection, has_retired, label, vertex, Triple}
use Rattle.tg_graph.specs.Promise.Opening.{ListedEdge}
use Rattle.tg_graph.specs.Promise.Parts.{AreParts, Before, HasVertex, Listed, Lists, PartsAreOneGraph, Rises}
use Rattle.tg_graph.specs.Inner.Parts.{label_entry, member_of, members_of, vertex_entry, listed_vertex}
use Rattle.tg_graph.specs.Promise.Views.{label_at, pair_cmp}
use Rattle.tg_graph.specs.Inner.Views.{protection_of}
use Rattle.tg_graph.proofs.LabelLemmas.{Labels, contains-label}
use Rattle.tg_graph.proofs.ListedLemmas.{collected, edge_earlier, edges_apart, ends_tied, entries_sorted, found_listed, listed_found, mapped, members_length, members_rise, permuted, rise_rises, same_in_order, serial_earlier, serial_tied, serials_apart, serials_distinct, still_distinct}
use Rattle.tg_graph.proofs.RollLemmas.{any_is, is-same_name, is_any, same_name-is, untrue}
use Rattle.tg_graph.proofs.TriplesLemmas.{same_triples}
use Rattle.tg_graph.proofs.VertexLemmas.{Entries}
use Rattle.tg_graph.proofs.ViewsLemmas.{label-shown, vertex-shown}

-- ---- maps that are collected from lists in order

pub vertices_collected : (listed : List Listed) (n : tree.BTreeMap ℕ Vertex) → Rises (λ v w. v.0 < w.0) listed → tree.IsFromIterResult nat_cmp (map vertex_entry listed) n → n.entries ≡ map vertex_entry listed
vertices_collected listed n rises made =
    collected nat_cmp nat_cmp_total exact_unsigned (map vertex_entry listed) n
    (entries_sorted nat_cmp (λ (v w : Listed). v.0 < w.0) (λ (v : Listed). v.0) listed_vertex (λ v w low. serial_earlier v.0 w.0 low) listed rises)
    made

pub labels_collected : (listed : List ListedEdge) (n : tree.BTreeMap (ℕ × ℕ) Letters) → Rises Before listed → tree.IsFromIterResult pair_cmp (map label_entry listed) n → n.entries ≡ map label_entry listed
labels_collected listed n rises made =
    collected pair_cmp (then_total (on_total (λ (p : ℕ × ℕ). p.0) nat_cmp_total) (on_total (λ (p : ℕ × ℕ). p.1) nat_cmp_total)) (exact_pairs nat_cmp nat_cmp exact_unsigned exact_unsigned) (map label_entry listed) n
    (entries_sorted pair_cmp Before (λ (e : ListedEdge). (e.0, e.2)) (λ (e : ListedEdge). e.1) edge_earlier listed rises)
    made

-- ---- what lists make

module _ (p : Parts) (ok : AreParts p) (vs : Entries) (es : Labels) (ms : List Member) (rs : List ℕ)
    (vertices_are : vs ≡ map vertex_entry p.vertices.items) (labels_are : es ≡ map label_entry p.edges.items)
    (same : IsPermutation (members_of p.names.items) ms) (up : IsNonDecreasingBy (λ (m : Member). m.serial) ms)
    (retired_are : (q : ℕ) → list_any (eq_by_cmp nat_cmp q) rs ≡ list_any (eq_by_cmp nat_cmp q) p.retired.items) where
  abbrev G : Protection
  G = protection_of vs es p.next ms rs

  vertex_at : (v : ℕ) → vertex G v ≡ lookup (tree.is_at (nat_cmp v)) (map vertex_entry p.vertices.items)
  vertex_at v = vertex-shown G vs v refl ∙ ap (lookup (tree.is_at (nat_cmp v))) vertices_are

  found : (v : ℕ) (e : Vertex) → vertex G v ≡ Some e → Contains p.vertices.items (v, e.kind, e.text)
  found v e is =
      let one = found_listed nat_cmp (λ (x y : Listed). x.0 < y.0) (λ (x : Listed). x.0) listed_vertex serial_tied p.vertices.items v e (sym (vertex_at v) ∙ is) in
      subst (Contains p.vertices.items) (λ i. (one.2 i, (one.3 i).kind, (one.3 i).text)) one.1

  there : (x : Listed) → Contains p.vertices.items x → vertex G x.0 ≡ Some (listed_vertex x)
  there x h =
      vertex_at x.0
      ∙ listed_found nat_cmp (λ (x y : Listed). x.0 < y.0) (λ (x : Listed). x.0) listed_vertex serial_tied (λ x y low. serials_apart x.0 y.0 low) p.vertices.items x ok.vertices h

  has_vertex : (v : ℕ) → IsVertex G v → HasVertex p v
  has_vertex v h = by (vertex G v) refl h where
    by : (o : Option Vertex) → vertex G v ≡ o → is_some o ≡ true → HasVertex p v
    by None is h = absurd (cc h)
    by (Some e) is h = ((v, e.kind, e.text), found v e is, refl)

  is_vertex : (v : ℕ) → HasVertex p v → IsVertex G v
  is_vertex v (x, h, is) = ap is_some (ap (vertex G) (sym is) ∙ there x h)

  label_is : (x y : ℕ) → label G x y ≡ unwrap_or (lookup (tree.is_at (pair_cmp (x, y))) (map label_entry p.edges.items)) none
  label_is x y = label-shown G es x y refl ∙ ap (λ (l : Labels). label_at l x y) labels_are

  labelled : (e : ListedEdge) → Contains p.edges.items e → label G e.0 e.2 ≡ e.1
  labelled e h =
      label_is e.0 e.2
      ∙ ap (λ o. unwrap_or o none) (listed_found pair_cmp Before (λ (e : ListedEdge). (e.0, e.2)) (λ (e : ListedEdge). e.1) ends_tied edges_apart p.edges.items e ok.edges h)

  edge_listed : (x y : ℕ) → IsEdge G x y → Contains p.edges.items (x, label G x y, y)
  edge_listed x y some = by (lookup (tree.is_at (pair_cmp (x, y))) (map label_entry p.edges.items)) refl where
    by : (o : Option Letters) → lookup (tree.is_at (pair_cmp (x, y))) (map label_entry p.edges.items) ≡ o → Contains p.edges.items (x, label G x y, y)
    by None is = absurd (cc (sym some, ap is_none (label_is x y ∙ ap (λ o. unwrap_or o none) is)))
    by (Some l) is =
        let one = found_listed pair_cmp Before (λ (e : ListedEdge). (e.0, e.2)) (λ (e : ListedEdge). e.1) ends_tied p.edges.items (x, y) l is in
        let here : label G x y ≡ l = label_is x y ∙ ap (λ o. unwrap_or o none) is in
        subst (Contains p.edges.items) (λ i. ((one.2 i).0, (one.3 ∙ sym here) i, (one.2 i).1)) one.1

  pub made_lists : Lists p G
  made_lists = record {
    vertices = λ v k text. (λ h. there (v, k, text) h, λ is. found v (record { kind = k; text = text }) is);
    edges = λ x y l. (
      λ h. (sym (labelled (x, l, y) h), ap is_none (labelled (x, l, y) h) ∙ (ok.ends (x, l, y) h).3),
      λ h. subst (λ (m : Letters). Contains p.edges.items (x, m, y)) (sym h.0) (edge_listed x y h.1),
    );
    names = λ m. (
      λ h. permuted (members_of p.names.items) ms m same (contains_map member_of p.names.items (m.name, m.serial) h),
      λ h. let one = mapped member_of p.names.items m (permuted ms (members_of p.names.items) m (IsPermutation-sym (members_of p.names.items) ms same) h) in
          subst (Contains p.names.items) (λ i. ((sym one.2 i).name, (sym one.2 i).serial)) one.1,
    );
    retired = λ v. (
      λ h. set.contains-from_list nat_cmp_total rs v ∙ retired_are v ∙ is_any (eq_by_cmp nat_cmp v) p.retired.items v h (unsigned_tied v v ∙ eq-eqb v v refl),
      λ t. let one = any_is (eq_by_cmp nat_cmp v) p.retired.items (sym (retired_are v) ∙ sym (set.contains-from_list nat_cmp_total rs v) ∙ t) in
          subst (Contains p.retired.items) (sym (eqb-true v one.0 (sym (unsigned_tied v one.0) ∙ one.2))) one.1,
    );
    next = refl;
  }

  -- an edge of a triple
  triple_listed : (t : Triple) → set.contains G.triples t ≡ true → Contains p.edges.items (t.from, label G t.from t.to, t.to)
  triple_listed t h = edge_listed t.from t.to (right_some (label G t.from t.to) t.right (sym (contains-label G t) ∙ h))

  serials_kept : Distinct (map (λ (m : Member). m.serial) ms)
  serials_kept =
      serials_distinct (map (λ (n : List ℕ × ℕ). n.1) p.names.items) (map (λ (m : Member). m.serial) ms)
      (subst (λ (l : List ℕ). IsPermutation l (map (λ (m : Member). m.serial) ms)) (map_map p.names.items) (IsPermutation-map (λ (m : Member). m.serial) (members_of p.names.items) ms same)) ok.serials where
        map_map : (ns : List (List ℕ × ℕ)) → map (λ (m : Member). m.serial) (members_of ns) ≡ map (λ (n : List ℕ × ℕ). n.1) ns
        map_map [] = refl
        map_map (n ∷ ns) = ap (λ (l : List ℕ). n.1 ∷ l) (map_map ns)

  names_kept : Distinct (map (λ (m : Member). m.name) ms)
  names_kept =
      still_distinct same_name (λ a b. (same_name-is a b, is-same_name a b)) nat_list_eq_equiv.symm (map (λ (n : List ℕ × ℕ). n.0) p.names.items) (map (λ (m : Member). m.name) ms)
      (subst (λ (l : List (List ℕ)). IsPermutation l (map (λ (m : Member). m.name) ms)) (map_map p.names.items) (IsPermutation-map (λ (m : Member). m.name) (members_of p.names.items) ms same)) ok.names where
        map_map : (ns : List (List ℕ × ℕ)) → map (λ (m : Member). m.name) (members_of ns) ≡ map (λ (n : List ℕ × ℕ). n.0) ns
        map_map [] = refl
        map_map (n ∷ ns) = ap (λ (l : List (List ℕ)). n.0 ∷ l) (map_map ns)

  many : length ms ≤ MAX_PRINCIPALS
  many = let long = length_permutation (members_of p.names.items) ms same in let short = members_length p.names.items in let few = ok.few in omega (arith, long, short, few)

  pub made_IsGraph : IsGraph G
  made_IsGraph = record {
    below_next = λ v h. ok.below_next v (has_vertex v h);
    from_vertex = λ t h. is_vertex t.from (ok.ends _ (triple_listed t h)).0;
    to_vertex = λ t h. is_vertex t.to (ok.ends _ (triple_listed t h)).1;
    distinct = λ t h. (ok.ends _ (triple_listed t h)).2;
    roll = record {
      subjects = λ m h. let one = ok.principals (m.name, m.serial) ((made_lists.names m).1 h) in ap (option_map (λ (e : Vertex). e.kind)) (there (m.serial, kind.Subject, one.0.0) one.0.1);
      active = λ m h. untrue _ (λ t. (ok.principals (m.name, m.serial) ((made_lists.names m).1 h)).1 ((made_lists.retired m.serial).1 t));
      rising = members_rise ms up serials_kept;
      apart = names_kept;
      few = many;
      past = λ v t. ok.below_next v (ok.were v ((made_lists.retired v).1 t));
    };
  }

-- ---- lists have exactly what one graph has

-- an option is known by what it may be
pub same_option : {X : Type 0} (o q : Option X) → ((x : X) → o ≡ Some x → q ≡ Some x) → ((x : X) → q ≡ Some x → o ≡ Some x) → o ≡ q
same_option None None f g = refl
same_option None (Some x) f g = g x refl
same_option (Some x) q f g = sym (f x refl)

pub same_bool : (a b : Bool) → (a ≡ true → b ≡ true) → (b ≡ true → a ≡ true) → a ≡ b
same_bool true b f g = sym (f refl)
same_bool false true f g = g refl
same_bool false false f g = refl

-- a label is known by what it may be where there is an edge
pub same_label : (l m : Letters) → (is_none l ≡ false → l ≡ m) → (is_none m ≡ false → m ≡ l) → l ≡ m
same_label l m f g = by (is_none l) (is_none m) refl refl where
  by : (a b : Bool) → is_none l ≡ a → is_none m ≡ b → l ≡ m
  by false b e f' = f e
  by true false e f' = sym (g f')
  by true true e f' = is_none-none l e ∙ sym (is_none-none m f')

pub one_graph : PartsAreOneGraph
one_graph p G H g h in_G in_H = λ i. record { vertices = vertices i; next = (sym in_G.next ∙ in_H.next) i; triples = triples i; names = names i; retired = retired i } where
  vertices : G.vertices ≡ H.vertices
  vertices = finmap.same_map nat_cmp_total finmap.nat_cmp-IsAntisymmetric _ _ (λ v.
      same_option (vertex G v) (vertex H v)
      (λ e is. (in_H.vertices v e.kind e.text).0 ((in_G.vertices v e.kind e.text).1 is))
      (λ e is. (in_G.vertices v e.kind e.text).0 ((in_H.vertices v e.kind e.text).1 is)))

  labels : (x y : ℕ) → label G x y ≡ label H x y
  labels x y = same_label (label G x y) (label H x y)
      (λ some. ((in_H.edges x y (label G x y)).0 ((in_G.edges x y (label G x y)).1 (refl, some))).0)
      (λ some. ((in_G.edges x y (label H x y)).0 ((in_H.edges x y (label H x y)).1 (refl, some))).0)

  triples : G.triples ≡ H.triples
  triples = same_triples _ _ (λ t. contains-label G t ∙ ap (λ l. has l t.right) (labels t.from t.to) ∙ sym (contains-label H t))

  names : G.names ≡ H.names
  names = same_in_order (λ (m : Member). m.serial) G.names H.names (rise_rises G.names g.roll.rising) (rise_rises H.names h.roll.rising)
      (λ m k. (in_H.names m).0 ((in_G.names m).1 k)) (λ m k. (in_G.names m).0 ((in_H.names m).1 k))

  retired : G.retired ≡ H.retired
  retired = set.same_set nat_cmp_total set.nat_cmp-IsAntisymmetric _ _ (λ v.
      same_bool (has_retired G v) (has_retired H v) (λ t. (in_H.retired v).0 ((in_G.retired v).1 t)) (λ t. (in_G.retired v).0 ((in_H.retired v).1 t)))
