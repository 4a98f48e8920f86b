-- How many vertices and edges the graph of what is held has, and which edges a held vertex has in it.
use Rattle.std.proofs.Common.{◌≡◌, ◌≢◌, ℕ, zero, suc, List, [], ◌∷◌, length, map, Option, Some, None, true, false, sym, ◌∙◌, subst, ap, refl, arith, sum_by, ◌<◌, cond, T, ◌+◌}
use Rattle.tg_collect.proofs.Common.{length-map, sum_by-append, is_none, place, Contains, Distinct, contains_map, Edge, Kept, total, Stored, kept, vertices, held, Letters, edges, IsHeap, spot_serial, Root, Machine, lists_of, body, progress_of, Whole, stored, shown_body, spot_at, root_serial, kept_serial, IsHeldIn, IsParkedIn, IsStore, ◌↔◌, IsPermutation, IsNonDecreasingBy, IsPermutation-sym, IsPermutation-map, ones, permuted, rises_by, same_in_order, serials_distinct, vertex_count, edge_count, edge_list, keys_occur_once, edge_serials, held_one, held_cells, parked_cells, Closed, left_most, counted, IsRootAt, left_some, keys_apart, sorted_rises, spot_edges, IsEdgeList, option_to_list, Rises, vertex_listed}
use Rattle.std.specs.FinMap as finmap
use Rattle.tg_marking.specs.Promise.Values as values
use Rattle.tg_graph.specs.Promise.Protection.{label}
use Rattle.tg_graph.specs.Promise.Rules as graph
use Rattle.tg_collect.proofs.FoundLemmas.{alone, chosen, gathered, gathered_from, gathered_rises, gathered_to, optional, rises_distinct}
use Rattle.tg_collect.proofs.SlotLemmas.{contains_mapped, total_none, out_all, cells_so, celled, kept_within}
use Rattle.tg_collect.proofs.ShownLemmas.{Once, held_kept, kept_held, same_sum, same_length, keys_contains, place_kept}
use Rattle.tg_collect.proofs.StoreLemmas.{label_edge, kept_is, closed_so, named_so, once_stored, no_black, swept_so, ends, root_in, apart_so, edge_in, owned_here}

-- Pairs of a serial and a label, sorted by serials.
abbrev Pairs : Type 0
Pairs = List (ℕ × Letters)

abbrev pub pairs_of : List Edge → Pairs
pairs_of es = map (λ (e : Edge). (e.serial, e.rights)) es

keys_pairs : (es : List Edge) → map (λ (e : ℕ × Letters). e.0) (pairs_of es) ≡ edge_serials es
keys_pairs [] = refl
keys_pairs (e ∷ es) = ap (λ (l : List ℕ). e.serial ∷ l) (keys_pairs es)

distinct_mapped : {X Y : Type 0} (f : X → Y) (xs : List X) → Distinct (map f xs) → Distinct xs
distinct_mapped f [] d = tt
distinct_mapped f (x ∷ xs) d = (λ h. d.0 (contains_map f xs x h), distinct_mapped f xs d.1)

-- ---- sums over what is held

-- The serials of what is held, slot by slot.
abbrev places : Stored → ℕ → List ℕ
places v n = gathered (λ i. option_to_list (place v i)) n

sum_places : (v : Stored) (g : ℕ → ℕ) (f : Option Kept → ℕ) → f None ≡ 0 → ((i : ℕ) (k : Kept) → kept v i ≡ Some k → g k.serial ≡ f (Some k)) → (n : ℕ) → sum_by g (places v n) ≡ total (λ i. f (kept v i)) n
sum_places v g f z e zero = refl
sum_places v g f z e (suc n) =
    let a = sum_by-append g (places v n) (option_to_list (place v n)) in
    let r = sum_places v g f z e n in
    let last = by (kept v n) refl in
    omega (arith, a, r, last)
  where
    by : (o : Option Kept) → kept v n ≡ o → sum_by g (option_to_list (kept_serial o)) ≡ f o
    by None is = sym z
    by (Some k) is = let one = e n k is in omega (arith, one)

module _ (v : Stored) (once : Once v) where
  abbrev all : List ℕ
  all = places v (length v.slots)

  to_keys : (x : ℕ) → Contains all x → Contains (finmap.keys (vertices v)) x
  to_keys x h =
      let r = gathered_from (λ i. option_to_list (place v i)) (length v.slots) x h in
      let k = place_kept v r.0 x (optional (place v r.0) x r.2) in
      vertex_listed (held v 0) x (subst (IsHeldIn v) k.2 (kept_held v r.0 k.0 once k.1))

  from_keys : (x : ℕ) → Contains (finmap.keys (vertices v)) x → Contains all x
  from_keys x h =
      let r = held_kept v x (keys_contains (vertices v) x h) in
      gathered_to (λ i. option_to_list (place v i)) (length v.slots) r.0 x (kept_within (shown_body v) v.stage r.0 r.1 r.2) (chosen (place v r.0) x (ap kept_serial r.2 ∙ ap (λ (y : ℕ). Some y) r.3))

  apart : Distinct all
  apart = rises_distinct all (gathered_rises (λ i. option_to_list (place v i)) (λ x y. x ≢ y) (λ i. alone _ (place v i))
      (λ i j x y low h k same.
      let first = place_kept v i x (optional (place v i) x h) in
      let second = place_kept v j y (optional (place v j) y k) in
      let here = once i j first.0 second.0 first.1 second.1 (first.2 ∙ same ∙ sym second.2) in
      absurd (omega (arith, low, here))) (length v.slots))

  -- A sum over the vertices of the graph is one over the slots.
  sum_held : (g : ℕ → ℕ) (f : Option Kept → ℕ) → f None ≡ 0 → ((i : ℕ) (k : Kept) → kept v i ≡ Some k → g k.serial ≡ f (Some k)) → sum_by g (finmap.keys (vertices v)) ≡ total (λ i. f (kept v i)) (length v.slots)
  sum_held g f z e = same_sum g (finmap.keys (vertices v)) all (keys_occur_once (held v 0)) apart from_keys to_keys ∙ sum_places v g f z e (length v.slots)

  pub vertices_counted : (next : ℕ) → vertex_count (held v next) ≡ total (λ i. held_one (kept v i)) (length v.slots)
  vertices_counted next = sym (ones (finmap.keys (vertices v))) ∙ sum_held (λ x. 1) held_one refl (λ i k e. refl)

  -- ---- the edges of the graph

  module _ (closed : Closed (kept v) (IsRootAt v)) (serials_once : (i : ℕ) → Distinct (edge_serials (spot_edges (spot_at v i)))) (labelled : (i : ℕ) (e : Edge) → Contains (spot_edges (spot_at v i)) e → is_none e.rights ≡ false) where
    list_of : (next x : ℕ) → IsEdgeList (held v next) x
    list_of next x = edge_list (held v next) x (λ y e. let t = edge_in v next x y e in (ends v closed once (record { from = x; right = t.0; to = y }) t.1).1)

    -- A held vertex has the edges in the graph that its slot has.
    module _ (next i : ℕ) (k : Kept) (is : kept v i ≡ Some k) where
      abbrev listed : Pairs
      listed = graph.edges_of (held v next) k.serial

      pub slot_edges : spot_edges (spot_at v i) ≡ k.edges
      slot_edges = let o = kept_is v.stage i (spot_at v i) k is in ap spot_edges o.1 ∙ ap (λ (t : Kept). t.edges) o.3

      distinct_here : Distinct (edge_serials k.edges)
      distinct_here = subst (λ (l : List Edge). Distinct (edge_serials l)) slot_edges (serials_once i)

      pub label_here : (e : Edge) → Contains k.edges e → label (held v next) k.serial e.serial ≡ e.rights
      label_here e c = label_edge v next i k once is e distinct_here c

      pub pairs_here : (p : ℕ × Letters) → Contains listed p ↔ Contains (pairs_of k.edges) p
      pairs_here p = (
        λ h.
            let r = ((list_of next k.serial).edges p.0 p.1).0 h in
            let t = edge_in v next k.serial p.0 r.1 in
            let o = owned_here v next i k once is (record { from = k.serial; right = t.0; to = p.0 }) t.1 refl in
            let rights = sym (label_here o.0 o.1) ∙ ap (label (held v next) k.serial) (sym o.2) ∙ sym r.0 in
            subst (Contains (pairs_of k.edges)) (λ n. (sym o.2 n, rights n)) (contains_map (λ (x : Edge). (x.serial, x.rights)) k.edges o.0 o.1),
        λ h.
            let e = contains_mapped (λ (x : Edge). (x.serial, x.rights)) k.edges p h in
            let rights = label_here e.0 e.1 in
            subst (Contains listed) e.2 (((list_of next k.serial).edges e.0.serial e.0.rights).1 (sym rights, ap is_none rights ∙ labelled i e.0 (subst (λ (l : List Edge). Contains l e.0) (sym slot_edges) e.1))),
      )

      rising : Rises (λ (p q : ℕ × Letters). p.0 < q.0) listed
      rising = sorted_rises listed (subst T (sym (list_of next k.serial).rising) tt)

      -- The slot's edges in the order of their serials are the vertex's.
      pub edges_listed : (ys : Pairs) → IsPermutation (pairs_of k.edges) ys → IsNonDecreasingBy (λ (e : ℕ × Letters). e.0) ys → ys ≡ listed
      edges_listed ys p up =
          same_in_order (λ (e : ℕ × Letters). e.0) ys listed
          (rises_by (λ (e : ℕ × Letters). e.0) ys up
          (serials_distinct (map (λ (e : ℕ × Letters). e.0) (pairs_of k.edges)) (map (λ (e : ℕ × Letters). e.0) ys) (IsPermutation-map (λ (e : ℕ × Letters). e.0) (pairs_of k.edges) ys p) (subst Distinct (sym (keys_pairs k.edges)) distinct_here)))
          rising
          (λ q h. (pairs_here q).1 (permuted ys (pairs_of k.edges) q (IsPermutation-sym (pairs_of k.edges) ys p) h)) (λ q h. permuted (pairs_of k.edges) ys q p ((pairs_here q).0 h))

      length_here : length listed ≡ length k.edges
      length_here =
          same_length listed (pairs_of k.edges)
          (distinct_mapped (λ (p : ℕ × Letters). p.0) listed (keys_apart listed rising))
          (distinct_mapped (λ (p : ℕ × Letters). p.0) (pairs_of k.edges) (subst Distinct (sym (keys_pairs k.edges)) distinct_here))
          (λ p. (pairs_here p).0) (λ p. (pairs_here p).1)
          ∙ length-map k.edges (λ (x : Edge). (x.serial, x.rights))

    pub edges_counted : (next : ℕ) → edge_count (held v next) ≡ total (λ i. held_cells (kept v i)) (length v.slots)
    edges_counted next = sum_held (λ x. length (graph.edges_of (held v next) x)) held_cells refl (λ i k is. length_here next i k is)

-- Each machine's value is a store.
module _ (m : Machine) (ok : IsHeap m.heap) (w : Whole m) where
  out_is : (i : ℕ) → spot_edges (spot_at (stored m) i) ≡ edges m.heap i
  out_is i = out_all m.heap (lists_of m.roots) ok i

  serials_so : (i : ℕ) → Distinct (edge_serials (spot_edges (spot_at (stored m) i)))
  serials_so = (celled m.heap (lists_of m.roots) ok).once

  labelled_so : (i : ℕ) (e : Edge) → Contains (spot_edges (spot_at (stored m) i)) e → is_none e.rights ≡ false
  labelled_so i e c = ok.cells.labelled i e (subst (λ (l : List Edge). Contains l e) (out_is i) c)

  cells_all : (next : ℕ) → (stored m).free_cells + edge_count (held (stored m) next) + total (λ i. parked_cells (stored m).stage i (spot_at (stored m) i)) (length (stored m).slots) ≡ (stored m).cells
  cells_all next = let a = counted.cells (shown_body (stored m)) (stored m).stage in let b = cells_so m.heap (lists_of m.roots) ok in let c = edges_counted (stored m) (once_stored m w) (closed_so m w) serials_so labelled_so next in omega (arith, a, b, c)

  none_parked : ((x : ℕ) → IsParkedIn (stored m) x → ⊥) → total (λ i. parked_cells (stored m).stage i (spot_at (stored m) i)) (length (stored m).slots) ≡ 0
  none_parked none = total_none (λ i. parked_cells (stored m).stage i (spot_at (stored m) i)) (length (stored m).slots) (λ i. elim (spot_at (stored m) i) as (λ o. spot_at (stored m) i ≡ o → parked_cells (stored m).stage i o ≡ 0) [
    | None ↦ λ e. refl
    | Some s ↦ λ e. elim (values.keeps (stored m).stage i s.colour) as (λ b. values.keeps (stored m).stage i s.colour ≡ b → cond b 0 (length s.edges) ≡ 0) [ true ↦ λ k. refl | false ↦ λ k. absurd (none s.serial (i, (s, e, k), ap spot_serial e)) ] refl
  ] refl)

  placed : (i x : ℕ) → place (stored m) i ≡ Some x → IsHeldIn (stored m) x
  placed i x e = let k = place_kept (stored m) i x e in subst (IsHeldIn (stored m)) k.2 (kept_held (stored m) i k.0 (once_stored m w) k.1)

  pub is_store : IsStore (stored m)
  is_store = record {
    closed = closed_so m w;
    named = named_so m w;
    once = w.kept.once;
    serials = serials_so;
    labelled = labelled_so;
    idle = no_black (body m) (progress_of m) w.kept.phase;
    swept = λ k. swept_so (body m) (progress_of m) k w.kept.phase;
    from_held = λ t h. (ends (stored m) (closed_so m w) (once_stored m w) t h).0;
    to_held = λ t h. (ends (stored m) (closed_so m w) (once_stored m w) t h).1;
    distinct = λ t h. (ends (stored m) (closed_so m w) (once_stored m w) t h).2;
    roots_held = λ x r. (let q = root_in (stored m) x r in placed q.0.slot x (named_so m w q.0 q.1 ∙ ap (λ (y : ℕ). Some y) q.2));
    apart = apart_so (stored m) w.kept.once;
    placed = placed;
    has_place = λ x h. (let k = held_kept (stored m) x h in (k.0, ap kept_serial k.2 ∙ ap (λ (y : ℕ). Some y) k.3));
    seats = length-map m.roots.targets.items (λ o. root_serial o) ∙ w.roots.seats;
    few = (let z = length-map m.roots.principals (λ (r : Root). r.serial) in let f = w.roots.few in omega (arith, z, f));
    agents = length-map m.roots.agents.items (λ o. root_serial o) ∙ w.roots.agents;
    slots = λ next. (let a = counted.slots (shown_body (stored m)) (stored m).stage in let b = vertices_counted (stored m) (once_stored m w) next in omega (arith, a, b));
    few_edges = λ next. (let c = cells_all next in omega (arith, c));
    all_cells = λ none next. (let c = cells_all next in let z = none_parked none in omega (arith, c, z));
    some_left = left_some (body m) (progress_of m) m.heap.cell_count;
    most_left = left_most (body m) (progress_of m) m.heap.cell_count w.kept (celled m.heap (lists_of m.roots) ok);
  }
