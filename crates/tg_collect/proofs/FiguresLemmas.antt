-- What the slots show, listed slot by slot.
use Rattle.std.proofs.Common.{◌≡◌, ◌≤◌, ◌≢◌, ◌++◌, ℕ, List, [], ◌∷◌, append_assoc, length, map, Option, Some, None, inl, inr, Bool, true, false, cond, sym, ◌∙◌, subst, ap, refl, eqb-true, eq-eqb, nat_eq}
use Rattle.tg_collect.proofs.Common.{cells, Contains, contains_filter, contains_map, Distinct, Edge, edges, spot_edges, ends_tied, Equal, filter, filter-append, filter_contains, first_cell, first_is, Greater, HeapGraph, in_slot, is_eq, is_lt, IsHeap, IsPermutation, IsSortedBy, IsStore, join, Less, Letters, Machine, map_append, mapped, spot_serial, nat_cmp, nat_cmp_total, on_total, option_eq, option_map, option_to_list, Ordering, ordering_then, remaining, remaining_split, Rises, rises_map, serial_tied, edge_serials, slot, spot_at, Stands, Stored, stored, then_some, then_total, untrue}
use Rattle.tg_collect.specs.Inner.Parts.{AreFound}
use Rattle.tg_collect.specs.Promise.Readings.{serial_in_slot}
use Rattle.tg_graph.specs.Promise.Opening as graph
use Rattle.tg_graph.specs.Promise.Parts.{Before}
use Rattle.tg_collect.specs.Promise.Figures.{IsArrow, figure, figure_in}
use Rattle.tg_collect.specs.Inner.Figures.{arrows, arrows_from, edge_from, source_at, is_there}
use Rattle.tg_collect.proofs.FoundLemmas.{gathered, gathered_sorted, nat_less}
use Rattle.tg_collect.proofs.ShownLemmas.{place_kept}
use Rattle.tg_collect.proofs.SlotLemmas.{zip_at}
use Rattle.tg_collect.proofs.StoreLemmas.{kept_name}
use Rattle.tg_collect.specs.declared.figures.Figure.{Figure}

-- ---- vertices

pub figure_named : (v : Stored) (i : ℕ) (f : Figure) → figure v i ≡ Some f → serial_in_slot v i ≡ Some f.serial
figure_named v i f is = elim (spot_at v i) as (λ o. spot_serial o ≡ option_map (λ (g : Figure). g.serial) (figure_in v.stage i o)) [ None ↦ refl | Some s ↦ refl ] ∙ ap (option_map (λ (g : Figure). g.serial)) is

-- ---- edges

-- the order of edges by their ends
abbrev pub ends : graph.ListedEdge → ℕ × ℕ
ends e = (e.0, e.2)

abbrev pub by_ends : graph.ListedEdge → graph.ListedEdge → Ordering
by_ends a b = ordering_then (nat_cmp a.0 b.0) (nat_cmp a.2 b.2)

comes_before : (a b : graph.ListedEdge) → by_ends a b ≡ Less → Before a b
comes_before a b less = by (nat_cmp a.0 b.0) refl less where
  by : (o : Ordering) → nat_cmp a.0 b.0 ≡ o → ordering_then o (nat_cmp a.2 b.2) ≡ Less → Before a b
  by Less is less = inl (nat_less a.0 b.0 is)
  by Equal is less = inr ((serial_tied a.0 b.0).0 (ap is_eq is), nat_less a.2 b.2 less)
  by Greater is less = absurd (cc)

pub name_shown : (m : Machine) (i : ℕ) → in_slot (λ o. o.serial) (slot m.heap.table i) ≡ serial_in_slot (stored m) i
name_shown m i = elim (slot m.heap.table i) as (λ o. in_slot (λ q. q.serial) o ≡ spot_serial (join o (edges m.heap i))) [ None ↦ refl | Some o ↦ refl ] ∙ sym (ap spot_serial (zip_at m.heap.table.slots m.heap.lists i))

-- One edge more.
pub arrows_more : (v : Stored) (x : ℕ) (p : List Edge) (e : Edge) → map (edge_from x) (filter (is_there v) (p ++ e ∷ [])) ≡ map (edge_from x) (filter (is_there v) p) ++ option_to_list (then_some (is_there v e) (edge_from x e))
arrows_more v x p e =
    ap (map (edge_from x)) (filter-append (is_there v) p (e ∷ [])) ∙ map_append (edge_from x) (filter (is_there v) p) (filter (is_there v) (e ∷ []))
    ∙ ap (λ (l : List graph.ListedEdge). map (edge_from x) (filter (is_there v) p) ++ l) (elim (is_there v e) as (λ b. map (edge_from x) (cond b (e ∷ []) []) ≡ option_to_list (then_some b (edge_from x e))) [ true ↦ refl | false ↦ refl ])

there_is : (o : Option ℕ) (y : ℕ) → option_eq nat_eq o (Some y) ≡ true → o ≡ Some y
there_is None y e = absurd (cc)
there_is (Some z) y e = ap (λ (w : ℕ). Some w) (eqb-true z y e)

-- Edges of one owner to different serials are apart.
filter_apart : (p : Edge → Bool) (es : List Edge) → Distinct (edge_serials es) → Rises (λ d e. d.serial ≢ e.serial) (filter p es)
filter_apart p [] d = tt
filter_apart p (e ∷ es) d = elim (p e) as (λ b. Rises (λ d e. d.serial ≢ e.serial) (cond b (e ∷ filter p es) (filter p es))) [
  | true ↦ (λ y h same. d.0 (subst (Contains (edge_serials es)) (sym same) (contains_map (λ (q : Edge). q.serial) es y (contains_filter p es y h).0)), filter_apart p es d.1)
  | false ↦ filter_apart p es d.1
]

module _ (v : Stored) (parked : Bool) where
  pub named : (b : Bool) (i x : ℕ) → source_at v b i ≡ Some x → serial_in_slot v i ≡ Some x
  named true i x is = is
  named false i x is = let k = place_kept v i x is in kept_name v.stage i (spot_at v i) k.0 k.1 ∙ ap (λ (y : ℕ). Some y) k.2

  -- What is listed of a slot is an edge that is shown, and back.
  pub given : (i : ℕ) (a : graph.ListedEdge) → Contains (arrows v parked i) a → (r : IsArrow v a.0 a.1 a.2) × (r.slot ≡ i) × (source_at v parked i ≡ Some a.0)
  given i a = by (source_at v parked i) refl where
    by : (o : Option ℕ) → source_at v parked i ≡ o → Contains (arrows_from v o i) a → (r : IsArrow v a.0 a.1 a.2) × (r.slot ≡ i) × (source_at v parked i ≡ Some a.0)
    by None at h = absurd h
    by (Some x) at h =
        let (e, kept, is) = mapped (edge_from x) (filter (is_there v) (spot_edges (spot_at v i))) a h in
        let (owned, there) = contains_filter (is_there v) (spot_edges (spot_at v i)) e kept in
        let from : source_at v parked i ≡ Some a.0 = at ∙ ap (λ (b : graph.ListedEdge). Some b.0) (sym is) in (
          record {
            slot = i;
            edge = e;
            from = named parked i a.0 from;
            owned = owned;
            label = ap (λ (b : graph.ListedEdge). b.1) (sym is);
            to = ap (λ (b : graph.ListedEdge). b.2) (sym is);
            there = there_is (serial_in_slot v e.target) e.serial there ∙ ap (λ (b : graph.ListedEdge). Some b.2) (sym is);
          },
          refl,
          from,
        )

  pub taken : (x y : ℕ) (l : Letters) (a : IsArrow v x l y) → source_at v parked a.slot ≡ Some x → Contains (arrows v parked a.slot) (x, l, y)
  taken x y l a from =
      let es = spot_edges (spot_at v a.slot) in
      let there : is_there v a.edge ≡ true = ap (λ o. option_eq nat_eq o (Some a.edge.serial)) (a.there ∙ ap (λ (z : ℕ). Some z) (sym a.to)) ∙ eq-eqb a.edge.serial a.edge.serial refl in
      subst (λ o. Contains (arrows_from v o a.slot) (x, l, y)) (sym from)
      (subst (Contains (map (edge_from x) (filter (is_there v) es))) (λ j. (x, a.label j, a.to j)) (contains_map (edge_from x) (filter (is_there v) es) a.edge (filter_contains (is_there v) es a.edge a.owned there)))

module _ (m : Machine) (s : IsStore (stored m)) (parked : Bool) where
  within : (o : Option ℕ) (i : ℕ) → Rises (λ a b. is_eq (by_ends a b) ≡ false) (arrows_from (stored m) o i)
  within None i = tt
  within (Some x) i =
      let es = spot_edges (spot_at (stored m) i) in
      rises_map (edge_from x) (λ d e. d.serial ≢ e.serial) (λ a b. is_eq (by_ends a b) ≡ false) (filter (is_there (stored m)) es)
      (λ d e apart. untrue _ (λ t. apart (ap (λ (p : ℕ × ℕ). p.1) ((ends_tied (ends (edge_from x d)) (ends (edge_from x e))).0 t)))) (filter_apart (is_there (stored m)) es (s.serials i))

  pub arrows_sorted : (n : ℕ) → length m.heap.table.slots ≤ n → (ys : List graph.ListedEdge) → IsPermutation (gathered (arrows (stored m) parked) n) ys → IsSortedBy (λ a b. is_lt (by_ends a b)) ys → AreFound (arrows (stored m) parked) Before ys
  arrows_sorted = gathered_sorted m s (arrows (stored m) parked) (λ a. a.0) (λ i a h. named (stored m) parked parked i a.0 (given (stored m) parked i a h).2) by_ends
      (on_total ends (then_total (on_total (λ (p : ℕ × ℕ). p.0) nat_cmp_total) (on_total (λ (p : ℕ × ℕ). p.1) nat_cmp_total)))
      (λ a b t. ap (λ (p : ℕ × ℕ). p.0) ((ends_tied (ends a) (ends b)).0 t)) (λ i. within (source_at (stored m) parked i) i) Before comes_before

-- A walk over the cells of a slot that comes to one of them.
pub record Turn (h : HeapGraph) (i cell : ℕ) (p r : List Edge) : Type 0 where
  pub edge : Edge
  pub after : List Edge
  pub left : r ≡ edge ∷ after
  pub stands : Stands h.lists cell i p edge after
  pub is : edges h i ≡ (p ++ edge ∷ []) ++ after

pub turn : (h : HeapGraph) (i cell : ℕ) (p r : List Edge) → edges h i ≡ p ++ r → Some cell ≡ first_cell r → Turn h i cell p r
turn h i cell p r whole at =
    let f = first_is r cell at in
    let is : edges h i ≡ p ++ f.edge ∷ f.after = whole ∙ ap (λ (l : List Edge). p ++ l) f.is in
    record { edge = f.edge; after = f.after; left = f.is; stands = record { is = is; here = f.here }; is = is ∙ sym (append_assoc p (f.edge ∷ []) f.after) }

pub left_is : (h : HeapGraph) → IsHeap h → (i : ℕ) (p r : List Edge) → edges h i ≡ p ++ r → length (remaining (first_cell r) (edges h i)) ≡ length r
left_is h ok i p r is = ap length (ap (remaining (first_cell r)) is ∙ remaining_split p r (subst (λ (l : List Edge). Distinct (cells l)) is (ok.cells.cell_once i)))

pub none_left : (r : List Edge) → None ≡ first_cell r → r ≡ []
none_left [] is = refl
none_left (e ∷ r) is = absurd (cc)
