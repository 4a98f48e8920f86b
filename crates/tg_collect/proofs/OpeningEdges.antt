-- A graph is opened: its edges, pair by pair, once the principals are there.
use Rattle.std.proofs.Common.{◌≡◌, ◌≢◌, ℕ, ◌+◌, ◌<◌, ◌≤◌, ◌∷◌, length, Option, Some, ◌⊎◌, inl, inr, Bool, true, false, cond, ◌&&◌, ◌==◌, sym, ◌∙◌, subst, ap, arith, set, sum_by, nat_lt}
use Rattle.tg_collect.proofs.Common.{cases_eq, is_some, unwrap_or, option_map, nat_cmp, sum_by-le-sum_by, contains-empty, Letters, has, is_none, none, joined, is_none-none, some_right, slot, Occupant, Triple, Protection, IsGraph, Vertex, Triples, kind_of, subjects, edge, edge_count, edges_at, same_triples, contains-label, label-relabelled, union-Relabels, edge_count-sums, edge_count-union, edge_from, edge_to, subjects-first, subjects-has, subjects-within, Edge, HasNone, HeapGraph, edges, mark_at, Free, IsHeap, IsAdded, Machine, stored, held, place, vertices, triples, gains, kept_from, as_kept, serial_at, Opened, OpensEdges, rank, OpensAll}
use Rattle.std.proofs.lemmas.Bool.Decides.{nat_tests}
use Rattle.std.specs.FinMap as finmap
use Rattle.std.specs.FinSet as finset
use Rattle.tg_rights.proofs.LettersLemmas.{has_none}
use Rattle.tg_graph.specs.Promise.Protection.{label}
use Rattle.tg_collect.proofs.ShownLemmas.{held_at}
use Rattle.tg_collect.proofs.StoreLemmas.{Holds, edge_label, found_contains, holds, label_is, owner, placed_mark, serial_is}
use Rattle.tg_collect.proofs.EdgeLemmas.{edge_put, graph_after}
use Rattle.tg_collect.proofs.CallLemmas.{occupant_serial}
use Rattle.tg_collect.proofs.EdgesLemmas.{is_store}
use Rattle.tg_collect.proofs.OpeningLemmas.{at_rest, count_is, marks_opened, none_parked, opened_opens, principal_at}

-- The loop over the serials goes on as long as there are subjects.
module _ (G : Protection) (count serial : ℕ) (e : G.vertices ≡ subjects count) where
  kind_is : kind_of G serial ≡ option_map (λ (v : Vertex). v.kind) (finmap.get (subjects count) serial)
  kind_is = ap (λ (m : finmap.FinMap nat_cmp Vertex). option_map (λ (v : Vertex). v.kind) (finmap.get m serial)) e

  pub kind_low : is_some (kind_of G serial) ≡ true → serial ≤ count
  kind_low t = let k = kind_is in let l = subjects-within count serial in grind arith

  pub kind_high : is_some (kind_of G serial) ≡ false → 1 ≤ serial → count < serial
  kind_high t one = let k = kind_is in let h = subjects-has count serial one in grind arith

-- A graph whose labels are another's, or none, has at most as many edges.
part_count : (K G : Protection) → K.vertices ≡ G.vertices → ((x y : ℕ) → edges_at (label K x y) ≤ edges_at (label G x y)) → edge_count K ≤ edge_count G
part_count K G same fewer =
    let a = edge_count-sums K in
    let b = edge_count-sums G in
    let c = ap (λ (vs : finmap.FinMap nat_cmp Vertex). sum_by (λ x. sum_by (λ y. edges_at (label K x y)) (finmap.keys vs)) (finmap.keys vs)) same in
    let d = sum_by-le-sum_by (λ x. sum_by (λ y. edges_at (label K x y)) (finmap.keys G.vertices)) (λ x. sum_by (λ y. edges_at (label G x y)) (finmap.keys G.vertices)) (finmap.keys G.vertices)
    (λ x. sum_by-le-sum_by (λ y. edges_at (label K x y)) (λ y. edges_at (label G x y)) (finmap.keys G.vertices) (fewer x)) in
    omega (arith, a, b, c, d)

module _ (m : Machine) (G : Protection) (next : ℕ) (o : OpensEdges m G next) where
  -- No label but those between principals is in the graph.
  outside : (x y : ℕ) → (1 ≤ x → x ≤ o.opening.count → 1 ≤ y → y ≤ o.opening.count → ⊥) → label G x y ≡ none
  outside x y far = is_none-none (label G x y) (let a = edge_from G o.graph x y in let b = edge_to G o.graph x y in let u = within x in let v = within y in grind arith) where
    within : (v : ℕ) → finmap.contains_key G.vertices v ≡ true → (1 ≤ v) × (v ≤ o.opening.count)
    within v h = let t = subst (λ (vs : finmap.FinMap nat_cmp Vertex). finmap.contains_key vs v ≡ true) o.opening.vertices h in (subjects-first o.opening.count v t, subjects-within o.opening.count v t)

  -- Pairs that have no edge are passed.
  pub later : (then : ℕ) → next ≤ then → ((x y : ℕ) → next ≤ rank x y → rank x y < then → label G x y ≡ none) → OpensEdges m G then
  later then up bare = record {
    opening = o.opening;
    graph = o.graph;
    opened = o.opened;
    labels = λ x y. let l = o.labels x y in let b = bare x y in grind (arith, nat_tests);
  }

  -- The last pair of a row, and the last row.
  pub row_done : (from : ℕ) → next ≡ rank (from + 1) (o.opening.count + 1) → OpensEdges m G (rank (from + 1 + 1) 1)
  row_done from is = let few = o.opening.few in later (rank (from + 1 + 1) 1) (omega (arith, is, few)) (λ x y low high. outside x y (λ a b c d. omega (arith, is, few, low, high, c, d)))

  pub rows_done : (slots cells : ℕ) → next ≡ rank (o.opening.count + 1) 1 → IsHeap m.heap → length m.heap.table.slots ≡ slots → m.heap.cell_count ≡ cells → Opened (stored m) G slots cells
  rows_done slots cells is ok es ec = record {
    vertices = o.opened.vertices ∙ sym o.opening.vertices;
    triples = same_triples (triples (stored m)) G.triples (λ t. contains-label (held (stored m) 0) t ∙ ap (λ (l : Letters). has l t.right) (all t.from t.to) ∙ sym (contains-label G t));
    parked = none_parked m o.opened.progress;
    grey = λ x c. elim (marks_opened m o.opening.count o.opened c.0) [ inl f ↦ (let k = c.1 in cc) | inr w ↦ (let k = c.1 in cc) ];
    black = λ x c. elim (marks_opened m o.opening.count o.opened c.0) [ inl f ↦ (let k = c.1 in cc) | inr w ↦ (let k = c.1 in cc) ];
    count = o.opening.count;
    opens = opened_opens m o.opening.count o.opened slots cells ok es ec;
  } where
    all : (x y : ℕ) → label (held (stored m) 0) x y ≡ label G x y
    all x y =
        let few = o.opening.few in
        let l = o.labels x y in
        let far = λ (h : next ≤ rank x y). outside x y (λ a b c d. omega (arith, is, few, h, b, d)) in
        grind (arith, nat_tests)

-- Before the first edge.
pub no_edges_yet : (m : Machine) (G : Protection) → OpensAll m G → IsGraph G → OpensEdges m G (rank 1 1)
no_edges_yet m G all graph = later m G 0 none_yet (rank 1 1) (omega arith) (λ x y low high. outside m G 0 none_yet x y (λ a b c d. omega (arith, high, a, c))) where
  none_yet : OpensEdges m G 0
  none_yet = record {
    opening = all.opening;
    graph = graph;
    opened = all.first.opened;
    labels = λ x y. let l = label_is (stored m) 0 x y none (λ r. ap (λ (s : Triples). finset.contains s (record { from = x; right = r; to = y })) all.first.triples ∙ contains-empty _ _ ∙ sym (has_none r)) in grind (arith, nat_tests);
  }

-- The pair of two principals, and the label between them.
module _ (m : Machine) (G : Protection) (from to : ℕ) (rights : Letters) (o : OpensEdges m G (rank (from + 1) (to + 1))) (from_in : from < length m.roots.principals) (to_in : to < length m.roots.principals) (labels : rights ≡ label G (from + 1) (to + 1)) where
  from_at : place (stored m) from ≡ Some (from + 1)
  from_at = principal_at m o.opening.count o.opened from (let c = count_is m o.opening.count o.opened in omega (arith, from_in, c))

  to_at : place (stored m) to ≡ Some (to + 1)
  to_at = principal_at m o.opening.count o.opened to (let c = count_is m o.opening.count o.opened in omega (arith, to_in, c))

  -- A pair of serials at the same place is this one, or there is no label.
  at_pair : (x y : ℕ) → rank x y ≡ rank (from + 1) (to + 1) → ((x ≡ from + 1) × (y ≡ to + 1)) ⊎ (label G x y ≡ none)
  at_pair x y is = elim (cases_eq x (from + 1)) [
    | inl here ↦ inl (here, omega (arith, is, here))
    | inr other ↦ inr (let few = o.opening.few in let c = count_is m o.opening.count o.opened in outside m G _ o x y (λ a b p q. omega (arith, is, other, few, c, to_in, p, q)))
  ]

  pub pair_empty : is_none rights ≡ true → OpensEdges m G (rank (from + 1) (to + 1 + 1))
  pair_empty empty = later m G _ o (rank (from + 1) (to + 1 + 1)) (omega arith) (λ x y low high. let p = at_pair x y (omega (arith, low, high)) in let e = is_none-none rights empty in grind arith)

  pub owner_there : mark_at m.heap from ≢ Free
  owner_there = placed_mark m from (ap is_some from_at)

  pub target_there : mark_at m.heap to ≢ Free
  target_there = placed_mark m to (ap is_some to_at)

  module _ (some : is_none rights ≡ false) (ok : IsHeap m.heap) where
    abbrev K : Protection
    K = held (stored m) 0

    bare : label K (from + 1) (to + 1) ≡ none
    bare = let l = o.labels (from + 1) (to + 1) in grind (arith, nat_tests)

    h : Holds m from
    h = holds m from (ap is_some from_at)

    serial_here : serial_at (stored m) from ≡ from + 1
    serial_here = ap (λ (o : Option ℕ). unwrap_or o 0) from_at

    target_is : (q : Occupant) → slot m.heap.table to ≡ Some q → q.serial ≡ to + 1
    target_is q is = occupant_serial (holds m to (ap is_some to_at)) q is ∙ ap (λ (o : Option ℕ). unwrap_or o 0) to_at

    pub pair_none : (q : Occupant) → slot m.heap.table to ≡ Some q → HasNone (edges m.heap from) q.serial
    pair_none q is d owned e =
        let empty : d.rights ≡ none = sym (edge_label o.opened.whole h ok d owned 0) ∙ (λ i. label K (serial_here i) ((e ∙ target_is q is) i)) ∙ bare in
        let full = ok.cells.labelled from d owned in
        let u : true ≡ false = ap is_none (sym empty) ∙ full in cc

    -- With the edge.
    abbrev with_edge : Protection
    with_edge = record K { triples = finset.union K.triples (edge (from + 1) rights (to + 1)) }

    gained : (x y : ℕ) → label with_edge x y ≡ cond ((from + 1 == x) && (to + 1 == y)) rights (label K x y)
    gained x y = label-relabelled K with_edge (from + 1) (to + 1) _ (union-Relabels K (from + 1) (to + 1) rights) x y ∙ ap (λ (l : Letters). cond ((from + 1 == x) && (to + 1 == y)) (joined l rights) (label K x y)) bare

    edge_labels : (x y : ℕ) → label with_edge x y ≡ cond (nat_lt (rank x y) (rank (from + 1) (to + 1 + 1))) (label G x y) none
    edge_labels x y = let g = gained x y in let l = o.labels x y in let p = at_pair x y in grind (arith, nat_tests)

    pub pair_room : m.heap.free_cells ≢ 0
    pair_room full =
        let all = (is_store m ok o.opened.whole).all_cells (none_parked m o.opened.progress) 0 in
        let most = part_count with_edge G (o.opened.vertices ∙ sym o.opening.vertices) fewer in
        let one = edge_count-union K (from + 1) (to + 1) rights (vertex_in from from_in) (vertex_in to to_in) in
        let a = ap (λ (l : Letters). edges_at l) bare in
        let b = ap (λ (l : Letters). edges_at (joined l rights)) bare ∙ ap {B = ℕ} (λ (b : Bool). cond b 0 1) some in
        let room = o.opening.cells in
        omega (arith, all, most, one, a, b, room, full)
      where
        vertex_in : (i : ℕ) → i < length m.roots.principals → finmap.contains_key (vertices (stored m)) (i + 1) ≡ true
        vertex_in i b = ap (λ (vs : finmap.FinMap nat_cmp Vertex). finmap.contains_key vs (i + 1)) o.opened.vertices ∙ subjects-has o.opening.count (i + 1) (omega arith) (let c = count_is m o.opening.count o.opened in omega (arith, b, c))

        fewer : (x y : ℕ) → edges_at (label with_edge x y) ≤ edges_at (label G x y)
        fewer x y = let e = ap (λ (l : Letters). edges_at l) (edge_labels x y) in grind (arith, nat_tests)

    apart : from ≢ to
    apart is =
        let r = some_right (label G (from + 1) (to + 1)) (ap is_none (sym labels) ∙ some) in
        let t : Triple = record { from = from + 1; right = r.0; to = to + 1 } in
        o.graph.distinct t (contains-label G t ∙ r.1) (ap (λ (i : ℕ). i + 1) is)

    added : (e : Edge) (f : ℕ) → e.target ≡ to → e.serial ≡ to + 1 → e.rights ≡ rights → IsHeap (record m.heap { lists = set m.heap.lists from (e ∷ edges m.heap from); free_cells = f })
        → OpensEdges (record m { heap = record m.heap { lists = set m.heap.lists from (e ∷ edges m.heap from); free_cells = f } }) G (rank (from + 1) (to + 1 + 1))
    added e f target serial same heap =
        let put = edge_put ok o.opened.whole h e f (ap (place (stored m)) target ∙ to_at ∙ ap (λ (x : ℕ). Some x) (sym serial)) (λ q. apart (sym q ∙ target)) (inr (at_rest m o.opening.count o.opened)) heap in
        let graph = graph_after o.opened.whole h _ (e ∷ edges m.heap from) h.occupant.text put 0 ∙ gains (kept_from (stored m).stage 0 (stored m).slots) from 0 (as_kept (owner h)) e (held_at (stored m) from ∙ h.shows)
        ∙ (λ i. record K { triples = finset.union K.triples (edge ((sym (serial_is h) ∙ serial_here) i) (same i) (serial i)) }) in
        record {
          opening = o.opening;
          graph = o.graph;
          opened = record {
            whole = put.whole;
            vertices = ap (λ (g : Protection). g.vertices) graph ∙ o.opened.vertices;
            roots = o.opened.roots;
            progress = o.opened.progress;
            grey = o.opened.grey;
            others = o.opened.others;
            free = o.opened.free;
            all = o.opened.all;
          };
          labels = λ x y. ap (λ (g : Protection). label g x y) graph ∙ edge_labels x y;
        }

    pub pair_opened : (g : HeapGraph) → IsHeap g → (q : Occupant) × (slot m.heap.table to ≡ Some q) × IsAdded m.heap g from to q.serial rights → OpensEdges (record m { heap = g }) G (rank (from + 1) (to + 1 + 1))
    pair_opened g ok' (q, is, inl (f, joins)) = absurd (pair_none q is f.edge (found_contains (edges m.heap from) q.serial f) f.here)
    pair_opened g ok' (q, is, inr (e, lacks, fresh, target, serial, same, more, shape)) = subst (λ (x : HeapGraph). OpensEdges (record m { heap = x }) G (rank (from + 1) (to + 1 + 1))) (sym shape)
        (added e g.free_cells target (serial ∙ target_is q is) same (subst IsHeap shape ok'))
