-- What the calls that add rights, take them and replace texts do to a store.
use Rattle.std.proofs.Common.{◌≡◌, ◌≢◌, ℕ, ◌<◌, ◌+◌, List, [], ◌∷◌, ◌++◌, length, Some, None, Result, Ok, Err, ◌⊎◌, inl, inr, true, false, sym, ◌∙◌, subst, ap, refl, set, arith, ◌≤◌, eq-eqb}
use Rattle.tg_collect.proofs.Common.{still_lead, Acted, Adds, HeapFull, IfErr, Occupant, OnErr, OnOk, RootLists, spot_serial, Apart, Dropped, Gone, HeapGraph, IsDropped, Protection, RewritesEdge, RightsRemoved, SetsText, Stayed, TextReplaced, at_within, body, cells, comes, difference-Relabels, drops, first_cell, is_none, is_none-none, label-relabelled, left_rewrites, none, progress_dropped, progress_of, progress_without, rewrites_keeps, same_Some, vertex_of, without, Contains, Edge, EdgeStored, Found, HasNone, IsAdded, IsEdgeIn, IsHeap, LedTo, Letters, Machine, Root, SEATS, Whole, as_kept, contains_map, edge, edges, fresh, gains, held, is_some, joined, relabelled, joins, kept_from, lists_of, pending_of, place, serial_at, slot, stored, with_target}
use Rattle.tg_heap.specs.declared.heap.HeapFull.TheVariants as full
use Rattle.std.specs.FinSet as finset
use Rattle.tg_marking.specs.Promise.Values as values
use Rattle.tg_collect.specs.Promise.Held as graph
use Rattle.tg_graph.specs.Promise.Protection.{label}
use Rattle.tg_collect.proofs.SlotLemmas.{seat_slot, put_slot}
use Rattle.tg_collect.proofs.ShownLemmas.{held_at, vertex_found}
use Rattle.tg_collect.proofs.StoreLemmas.{edge_in, edge_label, edge_owned, edge_visible, found_contains, holds, Holds, in_edge, owner, serial_is, owner_is, owner_within, once_stored, owner_place}
use Rattle.std.proofs.lemmas.Bool.{cases_Bool}
use Rattle.tg_collect.proofs.SeatLemmas.{same_lists, acted_edge}
use Rattle.tg_collect.proofs.RootLemmas.{target_set, targeted}
use Rattle.tg_collect.proofs.EdgeLemmas.{Replaced, alike, edge_put, edge_relabelled, edge_trimmed, graph_after, relabel, relisted, replaced, without_same}

-- The place of a held slot, and its occupant.
pub placed_serial : (m : Machine) (i : ℕ) → is_some (place (stored m) i) ≡ true → place (stored m) i ≡ Some (serial_at (stored m) i)
placed_serial m i some = let h = holds m i some in let s = serial_is h in let k = h.shows in grind arith

pub occupant_serial : {m : Machine} {i : ℕ} (h : Holds m i) (o : Occupant) → slot m.heap.table i ≡ Some o → o.serial ≡ serial_at (stored m) i
occupant_serial h o is = let s = serial_is h in let k = h.is in grind arith

-- An edge from a slot gains rights, or comes.
pub record Linked (m n : Machine) (seat id : ℕ) (t : Root) (rights : Letters) : Type 0 where
  pub whole : Whole n
  pub edge : EdgeStored (stored m) (stored n) seat (serial_at (stored m) id) t.serial rights
  pub at : edge.slot ≡ id
  pub to : edge.target ≡ t
  pub table : n.heap.table ≡ m.heap.table

-- Its target is the seat's.
module _ (m n : Machine) (seat id : ℕ) (t : Root) (rights : Letters) (ok : IsHeap m.heap) (w : Whole m) (source : is_some (place (stored m) id) ≡ true) (here : place (stored m) t.slot ≡ Some t.serial) (apart : t.slot ≢ id)
    (idle : pending_of (stored m) seat ≡ None) (l : seat < SEATS) (roots : lists_of n.roots ≡ with_target (lists_of m.roots) seat (Some t)) where
  abbrev m1 : Machine
  m1 = record m { roots = n.roots }

  first : Whole m1 × (stored m1 ≡ record (stored m) { roots = with_target (stored m).roots seat (Some t) })
  first = targeted m seat t w l idle here m1 (roots, refl)

  h : Holds m1 id
  h = holds m1 id source

  abbrev relinked : List (List Edge) → ℕ → Machine
  relinked lists free = record m1 { heap = record m.heap { lists = lists; free_cells = free } }

  abbrev Done : Machine → Type 0
  Done x = Linked m x seat id t rights

  abbrev Joined : ℕ → Type 0
  Joined free_cells = (IsEdgeIn (stored m) (serial_at (stored m) id) t.serial × (free_cells ≡ m.heap.free_cells)) ⊎ ((IsEdgeIn (stored m) (serial_at (stored m) id) t.serial → ⊥) × (m.heap.free_cells ≡ free_cells + 1))

  done : (lists : List (List Edge)) (free : ℕ) (es : List Edge) → Replaced m1 (relinked lists free) id (record (owner h) { edges = es }) → Joined free
      → ((next : ℕ) → graph.held (set (kept_from (stored m).stage 0 (stored m).slots) id (Some (record (as_kept (owner h)) { edges = es }))) next
      ≡ record (held (stored m) next) { triples = finset.union (held (stored m) next).triples (edge h.occupant.serial rights t.serial) })
      → ((e : Edge) → Contains es e → LedTo (edges m.heap id) e ⊎ (e.serial ≡ t.serial)) → Done (relinked lists free)
  done lists free es c how graph leads = record {
    whole = c.whole;
    edge = record {
      graph = λ next. rw (serial_is h) (graph_after first.0 h (relinked lists free) es h.occupant.text c next ∙ graph next);
      joined = λ e. elim how [ inl old ↦ old.1 | inr new ↦ absurd (new.0 e) ];
      new = λ n. elim how [ inl old ↦ absurd (n old.0) | inr new ↦ new.1 ];
      left = c.left;
      slot = id;
      place = owner_place h;
      owner = owner h;
      at = owner_is h;
      edges = es;
      leads = leads;
      target = t;
      named = refl;
      is = c.is ∙ ap (λ (rs : RootLists). record (stored m1) { slots = set (stored m).slots id (Some (record (owner h) { edges = es })); roots = rs; free_cells = free; left = (stored (relinked lists free)).left }) roots;
    };
    at = refl;
    to = refl;
    table = refl;
  }

  joined_so : (f : Found (edges m.heap id) t.serial) → IsHeap (relabelled m.heap id t.serial f (joined f.edge.rights rights)) → Done (record m1 { heap = relabelled m.heap id t.serial f (joined f.edge.rights rights) })
  joined_so f ok' = done (relabelled m.heap id t.serial f (joined f.edge.rights rights)).lists m.heap.free_cells (f.before ++ (relabel f.edge (joined f.edge.rights rights) ++ f.after))
      (edge_relabelled ok first.0 h f (joined f.edge.rights rights) ok') (inl (subst (IsEdgeIn (stored m) (serial_at (stored m) id)) f.here (edge_visible first.0 h ok f.edge (found_contains (edges m.heap id) t.serial f)), refl))
      (λ next. joins (kept_from (stored m).stage 0 (stored m).slots) id next (as_kept (owner h)) f.before f.edge f.after rights (held_at (stored m) id ∙ h.shows) f.is
      ∙ ap (λ (z : ℕ). record (held (stored m) next) { triples = finset.union (held (stored m) next).triples (edge h.occupant.serial rights z) }) f.here)
      (λ e c. inl (rw f.is (still_lead f.before (relabel f.edge (joined f.edge.rights rights)) f.after f.edge (alike f.edge (joined f.edge.rights rights)) e c)))

  came_so : (e : Edge) (k : ℕ) → HasNone (edges m.heap id) t.serial → e.target ≡ t.slot → e.serial ≡ t.serial → e.rights ≡ rights → m.heap.free_cells ≡ k + 1 → IsHeap (relisted m.heap id k (e ∷ edges m.heap id)) → Done (record m1 { heap = relisted m.heap id k (e ∷ edges m.heap id) })
  came_so e k absent to serial label free ok' = done (relisted m.heap id k (e ∷ edges m.heap id)).lists k (e ∷ edges m.heap id)
      (edge_put ok first.0 h e k (rw (to, serial) here) (λ q. apart (sym to ∙ q)) (inl (rw to (seat, seat_slot n.roots.targets.items seat t (target_set m n.roots seat t w l roots)))) ok')
      (inr (λ q. (let o = edge_owned first.0 h t.serial q in absent o.0 o.1 o.2), free))
      (λ next. gains (kept_from (stored m).stage 0 (stored m).slots) id next (as_kept (owner h)) e (held_at (stored m) id ∙ h.shows)
      ∙ (λ i. record (held (stored m) next) { triples = finset.union (held (stored m) next).triples (edge h.occupant.serial (label i) (serial i)) }))
      (λ d c. elim c [ inl new ↦ inr (ap (λ (x : Edge). x.serial) new ∙ serial) | inr old ↦ inl (contains_map (λ (x : Edge). x.serial) (edges m.heap id) d old) ])

  pub added : IsHeap n.heap → IsAdded m.heap n.heap id t.slot t.serial rights → n ≡ record m { heap = n.heap; roots = n.roots } → Done n
  added ok' (inl (f, is)) shape = subst Done (sym (shape ∙ λ i. record m1 { heap = is i })) (joined_so f (subst IsHeap is ok'))
  added ok' (inr (e, absent, fresh, to, serial, label, free, is)) shape = subst Done (sym (shape ∙ λ i. record m1 { heap = is i })) (came_so e n.heap.free_cells absent to serial label free (subst IsHeap is ok'))

-- The whole call that adds rights.
pub record AddCalled {U : Type 0} (m n : Machine) (seat id target : ℕ) (rights : Letters) (r : Result U HeapFull) : Type 0 where
  pub whole : Whole n
  pub ok : OnOk r (EdgeStored (stored m) (stored n) seat (serial_at (stored m) id) (serial_at (stored m) target) rights)
  pub acted : OnOk r (Acted (stored m) (stored n) None (Some (serial_at (stored m) target)))
  pub full : IfErr r (λ e. (e ≡ full.Cells) × ((stored m).free_cells ≡ 0) × (IsEdgeIn (stored m) (serial_at (stored m) id) (serial_at (stored m) target) → ⊥))
  pub unchanged : OnErr r (stored n ≡ stored m)

pub add_called : {U : Type 0} (m n : Machine) (seat id target : ℕ) (rights : Letters) (r : Result U HeapFull) → IsHeap m.heap → IsHeap n.heap → Whole m → is_some (place (stored m) id) ≡ true → is_some (place (stored m) target) ≡ true → target ≢ id
    → pending_of (stored m) seat ≡ None → seat < SEATS → Adds m seat id (record { serial = serial_at (stored m) target; slot = target }) rights r n → AddCalled m n seat id target rights r
add_called m n seat id target rights (Ok u) ok ok' w source held apart idle l (o, is, new, roots, shape) =
    let d = added m n seat id (record { serial = serial_at (stored m) target; slot = target }) rights ok w source (placed_serial m target held) apart idle l roots ok' (subst (λ (x : ℕ). IsAdded m.heap n.heap id target x rights) (occupant_serial (holds m target held) o is) new) shape in
    record { whole = d.whole; ok = d.edge; acted = acted_edge (stored m) (stored n) seat (serial_at (stored m) id) (serial_at (stored m) target) rights d.edge; full = tt; unchanged = tt }
add_called m n seat id target rights (Err e) ok ok' w source held apart idle l (cells, o, is, absent, none, same) = record {
  whole = rw same w;
  ok = tt;
  acted = tt;
  full = (cells, none, λ q. let x = edge_owned w (holds m id source) (serial_at (stored m) target) q in absent x.0 x.1 (x.2 ∙ sym (occupant_serial (holds m target held) o is)));
  unchanged = ap stored same;
}

-- The other slots hold other serials.
pub apart_so : {m : Machine} {id : ℕ} (w : Whole m) (h : Holds m id) → Apart (kept_from (stored m).stage 0 (stored m).slots) id h.occupant.serial
apart_so {m = m} {id = id} w h j t n e s = n (once_stored m w j id t (as_kept (owner h)) (sym (held_at (stored m) j) ∙ e) h.shows s)

-- An edge loses rights: it stays with those that are left, or goes.
module _ {m : Machine} {id : ℕ} (y : ℕ) (rights : Letters) (ok : IsHeap m.heap) (w : Whole m) (h : Holds m id) where
  abbrev Removal : Machine → Type 0
  Removal x = Whole x × RightsRemoved (stored m) (stored x) (serial_at (stored m) id) y rights

  module _ (f : Found (edges m.heap id) y) where
    abbrev rest : Letters
    rest = without f.edge.rights rights

    abbrev cut : List Edge → ℕ → Machine
    cut news k = record m { heap = relisted m.heap id k (f.before ++ (news ++ f.after)); progress = progress_without m.progress id f.edge.cell (first_cell (news ++ f.after)) }

    removed_by : (news : List Edge) (k : ℕ) → ((x : Edge) → Contains news x → (x.target ≡ f.edge.target) × (x.serial ≡ f.edge.serial)) → length news ≤ 1 → (news ≡ relabel f.edge rest) ⊎ ((news ≡ []) × (rest ≡ none))
        → (is_none rest ≡ false → k ≡ m.heap.free_cells) → (is_none rest ≡ true → k ≡ m.heap.free_cells + 1) → IsHeap (cut news k).heap → Removal (cut news k)
    removed_by news k same few how more less ok' = (
      c.whole,
      record {
        graph = graph_is;
        kept = λ e. more (sym (ap is_none label_is) ∙ in_edge (stored (cut news k)) 0 (serial_at (stored m) id) y e);
        gone = λ n. elim (cases_Bool (is_none rest)) [ inl empty ↦ less empty | inr some ↦ absurd (n (edge_in (stored (cut news k)) 0 (serial_at (stored m) id) y (ap is_none label_is ∙ some))) ];
        left = c.left;
        slot = id;
        place = owner_place h;
        owner = owner h;
        at = owner_is h;
        edges = f.before ++ (news ++ f.after);
        leads = λ e q. rw f.is (still_lead f.before news f.after f.edge same e q);
        is = c.is;
      },
    ) where
      c : Replaced m (cut news k) id (record (owner h) { edges = f.before ++ (news ++ f.after) })
      c = edge_trimmed ok w h f.before f.edge news f.after k f.is same few ok'

      graph_is : (next : ℕ) → held (stored (cut news k)) next ≡ record (held (stored m) next) { triples = finset.difference (held (stored m) next).triples (edge (serial_at (stored m) id) rights y) }
      graph_is next = rw (serial_is h) (graph_after w h (cut news k) (f.before ++ (news ++ f.after)) h.occupant.text c next
          ∙ drops (kept_from (stored m).stage 0 (stored m).slots) id next (as_kept (owner h)) f.before f.edge f.after (f.before ++ (news ++ f.after)) rights (held_at (stored m) id ∙ h.shows) f.is (ok.cells.serial_once id) (apart_so w h)
          (elim how [ inl one ↦ inl (rw one refl) | inr gone ↦ inr (rw gone.0 refl, gone.1) ])
          ∙ ap (λ (z : ℕ). record (held (stored m) next) { triples = finset.difference (held (stored m) next).triples (edge h.occupant.serial rights z) }) f.here)

      label_is : label (held (stored (cut news k)) 0) (serial_at (stored m) id) y ≡ rest
      label_is = ap (λ (g : Protection). label g (serial_at (stored m) id) y) (graph_is 0)
          ∙ label-relabelled (held (stored m) 0) _ (serial_at (stored m) id) y _ (difference-Relabels (held (stored m) 0) (serial_at (stored m) id) y rights) (serial_at (stored m) id) y
          ∙ rw (eq-eqb (serial_at (stored m) id) (serial_at (stored m) id) refl, eq-eqb y y refl, ← f.here, edge_label w h ok f.edge (found_contains (edges m.heap id) y f) 0) refl

  pub removed : (n : Machine) (d : Dropped) → IsHeap n.heap → IsDropped m.heap n.heap id y rights d → n ≡ record m { heap = n.heap; progress = progress_dropped m.progress id d } → Removal n
  removed n Stayed ok' (f, some, is) shape = subst Removal (sym (shape ∙ λ i. record m { heap = is i; progress = sym (without_same m.progress id f.edge.cell) i }))
      (removed_by f (relabel f.edge (without f.edge.rights rights)) m.heap.free_cells (alike f.edge (without f.edge.rights rights)) (omega arith) (inl refl) (λ s. refl) (λ z. absurd (some (is_none-none _ z))) (subst IsHeap is ok'))
  removed n (Gone cell next) ok' (f, empty, here, then, is) shape = subst Removal (sym (shape ∙ λ i. record m { heap = is i; progress = progress_without m.progress id (here i) (then i) }))
      (removed_by f [] (m.heap.free_cells + 1) (λ x never. absurd never) (omega arith) (inr (refl, empty)) (λ s. absurd (let u = ap is_none empty in cc)) (λ z. refl) (subst IsHeap is ok'))

-- The text of a held slot is replaced.
module _ {m : Machine} {id : ℕ} (w : Whole m) (h : Holds m id) (text : List ℕ) where
  abbrev retold : HeapGraph
  retold = record m.heap { table = record m.heap.table { slots = set m.heap.table.slots id (Some (record h.occupant { text = text })) } }

  abbrev after : Machine
  after = record m { heap = retold }

  abbrev step : RewritesEdge (body m) id text (body after)
  step = record { owner = owner h; at = owner_is h; is = put_slot m.heap (lists_of m.roots) id (Some (record h.occupant { text = text })) m.heap.table.free }

  same : progress_of after ≡ progress_of m
  same = (same_lists m.heap retold.table m.progress).0

  same_left : (stored after).left ≡ (stored m).left
  same_left = rw same (left_rewrites (body m) (body after) (progress_of m) id m.heap.cell_count text step)

  text_put : Replaced m after id (record (owner h) { text = text })
  text_put = replaced w retold m.progress id (record (owner h) { text = text }) step.is (owner_within h) (λ r. sym (ap spot_serial (owner_is h))) refl refl (rw same (rewrites_keeps (body m) (body after) (progress_of m) id text step w.kept)) ((same_lists m.heap retold.table m.progress).1 w.cursor)
      (ap values.shown same) (let l = same_left in omega (arith, l))

  text_replaced : TextReplaced (stored m) (stored after) (serial_at (stored m) id) text h.occupant.text
  text_replaced = record {
    vertex = vertex_of (as_kept (owner h));
    was = λ next. rw (serial_is h) (vertex_found (stored m) next id (as_kept (owner h)) (once_stored m w) h.shows);
    old = refl;
    graph = λ next. rw (serial_is h) (graph_after w h after (edges m.heap id) text text_put next
        ∙ comes (kept_from (stored m).stage 0 (stored m).slots) id next (record (as_kept (owner h)) { text = text }) (at_within (kept_from (stored m).stage 0 (stored m).slots) id (as_kept (owner h)) (held_at (stored m) id ∙ h.shows))
        (apart_so w h) (inr (as_kept (owner h), held_at (stored m) id ∙ h.shows, refl, refl)));
    slot = id;
    place = owner_place h;
    owner = owner h;
    at = owner_is h;
    is = text_put.is ∙ ap (λ l. record (stored m) { slots = set (stored m).slots id (Some (record (owner h) { text = text })); left = l }) same_left;
  }

  pub text_set : (n : Machine) (old : List ℕ) → SetsText m id text old n → Whole n × TextReplaced (stored m) (stored n) (serial_at (stored m) id) text old
  text_set n old (o, is, was, shape) =
      let same : h.occupant ≡ o = same_Some h.occupant o (sym h.is ∙ is) in
      rw (shape, was, ← same) (text_put.whole, text_replaced)
