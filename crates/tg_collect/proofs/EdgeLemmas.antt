-- A held slot gets other edges, or another text.
use Rattle.std.proofs.Common.{◌≡◌, ◌≢◌, ℕ, ◌<◌, List, [], ◌∷◌, ◌++◌, length, append_assoc, Option, Some, None, ◌⊎◌, inl, inr, cond, eq-eqb, sym, ◌∙◌, subst, ap, refl, set, get_or-set_same, get_or-set_other, ◌≤◌, arith, append-nil}
use Rattle.tg_collect.proofs.Common.{trims_stage, HasRoot, bare, cases_eq, Contains, Distinct, Edge, first_cell, HeapGraph, edges, remaining, Progress, Marking, progress_in, CursorFits, Letters, Found, IsHeap, Spot, Body, as_kept, slot_serial, spot_serial, put, put_each, at_within, Machine, lists_of, body, AtRest, progress_of, Whole, Stored, stored, kept_from, held, ne_eqb, cells, passed, split_whole, remaining_split, Trims, elsewhere, ahead, DropsEdge, PutsEdge, IsTarget, Invariant, puts_keeps, drops_keeps, left_puts, left_drops, is_at, progress_without, place, relabelled, body_of, held_keeps, left, shown_body}
use Rattle.tg_collect.proofs.SlotLemmas.{put_list}
use Rattle.tg_collect.proofs.ShownLemmas.{held_set, place_kept}
use Rattle.tg_collect.proofs.StoreLemmas.{Holds, owner, owner_is, owner_within}
use Rattle.tg_collect.proofs.SeatLemmas.{roots_move, stored_is}
use Rattle.tg_marking.specs.Promise.Values as values
use Rattle.tg_marking.specs.Promise.Steps as steps
use Rattle.tg_collect.specs.Promise.Held as graph

-- Two splits of a list: one part of it stands between their places.
splits : (a b c : List Edge) (x : Edge) (d : List Edge) → a ++ b ≡ c ++ x ∷ d → ((mid : List Edge) × (c ≡ a ++ mid) × (b ≡ mid ++ x ∷ d)) ⊎ ((mid : List Edge) × (d ≡ mid ++ b))
splits [] b c x d e = inl (c, refl, e)
splits (y ∷ a) b [] x d e = inr (a, grind arith)
splits (y ∷ a) b (z ∷ c) x d e = let rest = splits a b c x d in grind arith

-- The edges from a cursor on, by where it stands.
rest_is : (c : Option ℕ) (p r es : List Edge) → es ≡ p ++ r → c ≡ first_cell r → Distinct (cells es) → remaining c es ≡ r
rest_is c p r es whole fits once = rw (whole, fits) (remaining_split p r (rw whole at once))

-- An edge gives way to others; a cursor at it moves to what comes in its place.
module _ (i : ℕ) (before : List Edge) (e : Edge) (news after : List Edge) (once : Distinct (cells (before ++ e ∷ after))) (once' : Distinct (cells (before ++ (news ++ after)))) where
  abbrev was : List Edge
  was = before ++ e ∷ after

  abbrev now : List Edge
  now = before ++ (news ++ after)

  abbrev GoesOn : Option ℕ → Option ℕ → Type 0
  GoesOn c c' = Trims i before e news after (values.Marking (Some (record { slot = i; rest = remaining c was }))) (values.Marking (Some (record { slot = i; rest = remaining c' now }))) × (c' ≡ first_cell (remaining c' now))

  stays : (k : ℕ) → k ≢ e.cell → Some k ≡ first_cell (remaining (Some k) was) → GoesOn (Some k) (Some k)
  stays k other fits = by (splits (passed (Some k) was) (remaining (Some k) was) before e after (split_whole (Some k) was)) where
    by : ((mid : List Edge) × (before ≡ passed (Some k) was ++ mid) × (remaining (Some k) was ≡ mid ++ e ∷ after)) ⊎ ((mid : List Edge) × (after ≡ mid ++ remaining (Some k) was)) → GoesOn (Some k) (Some k)
    by (inl ([], front, rest)) = absurd (other (let u = fits ∙ ap first_cell rest in cc))
    by (inl (x ∷ mid, front, rest)) =
        let here : Some k ≡ Some x.cell = fits ∙ ap first_cell rest in
        let left = rest_is (Some k) (passed (Some k) was) (x ∷ mid ++ (news ++ after)) now (ap (λ (l : List Edge). l ++ (news ++ after)) front ∙ append_assoc (passed (Some k) was) (x ∷ mid) (news ++ after)) here once' in
        rw (rest, left) (ahead (x ∷ mid) (passed (Some k) was) front, here)
    by (inr (mid, behind)) =
        let left = rest_is (Some k) (before ++ (news ++ mid)) (remaining (Some k) was) now (ap (λ (l : List Edge). before ++ (news ++ l)) behind ∙ simp append_assoc) fits once' in
        rw left (steps.passed (remaining (Some k) was) mid behind, fits)

  goes_on : (c : Option ℕ) → c ≡ first_cell (remaining c was) → GoesOn c (cond (is_at c e.cell) (first_cell (news ++ after)) c)
  goes_on None fits = (steps.passed [] after (sym (append-nil after)), refl)
  goes_on (Some k) fits = elim (cases_eq k e.cell) [
    | inl is ↦ rw (is, eq-eqb e.cell e.cell refl, remaining_split before (e ∷ after) once, remaining_split before (news ++ after) once') (ahead [] before (sym (append-nil before)), refl)
    | inr other ↦ rw (ne_eqb k e.cell other) (stays k other fits)
  ]

-- A slot's list is replaced, and some cells are free.
abbrev pub relisted : HeapGraph → (i k : ℕ) → List Edge → HeapGraph
relisted h i k es = record h { lists = set h.lists i es; free_cells = k }

-- The machine's progress afterwards.
module _ (h : HeapGraph) (i k : ℕ) (within : i < length h.lists) where
  -- A new first edge counts as passed.
  pub puts_progress : (e : Edge) (p : Progress) → Distinct (cells (e ∷ edges h i)) → CursorFits h p → (progress_in (relisted h i k (e ∷ edges h i)) p ≡ progress_in h p) × CursorFits (relisted h i k (e ∷ edges h i)) p
  puts_progress e (Marking (Some s)) once f = elim (cases_eq s.slot i) [
    | inl here ↦
        let fits : s.cursor ≡ first_cell (remaining s.cursor (edges h i)) = rw here at f in
        let left = rest_is s.cursor (e ∷ passed s.cursor (edges h i)) (remaining s.cursor (edges h i)) (e ∷ edges h i) (ap (λ (l : List Edge). e ∷ l) (sym (split_whole s.cursor (edges h i)))) fits once in
        rw (here, get_or-set_same h.lists i (e ∷ edges h i) [] within, left) (refl, fits)
    | inr other ↦ rw (get_or-set_other h.lists i s.slot (e ∷ edges h i) [] other) (refl, f)
  ]
  puts_progress e p once f = (refl, tt)

  pub trims : (before : List Edge) (e : Edge) (news after : List Edge) (p : Progress) → edges h i ≡ before ++ e ∷ after → Distinct (cells (edges h i)) → Distinct (cells (before ++ (news ++ after))) → CursorFits h p
      → Trims i before e news after (progress_in h p) (progress_in (relisted h i k (before ++ (news ++ after))) (progress_without p i e.cell (first_cell (news ++ after))))
      × CursorFits (relisted h i k (before ++ (news ++ after))) (progress_without p i e.cell (first_cell (news ++ after)))
  trims before e news after (Marking (Some s)) was once once' f = elim (cases_eq s.slot i) [
    | inl here ↦ rw (here, eq-eqb i i refl, get_or-set_same h.lists i (before ++ (news ++ after)) [] within, was) (goes_on i before e news after (rw was at once) once' s.cursor (rw (here, was) at f))
    | inr other ↦ rw (ne_eqb s.slot i other, get_or-set_other h.lists i s.slot (before ++ (news ++ after)) [] other) (elsewhere (progress_in h (Marking (Some s))) (λ t is q. grind arith), f)
  ]
  trims before e news after _ was once once' f = (elsewhere _ (λ t is. absurd (cc)), tt)

-- A cursor at an edge whose label changes stays.
pub without_same : (p : Progress) (i c : ℕ) → progress_without p i c (Some c) ≡ p
without_same p i c = grind arith

-- One slot holds something else.
pub record Replaced (m n : Machine) (i : ℕ) (s : Spot) : Type 0 where
  pub whole : Whole n
  pub left : (stored n).left ≤ (stored m).left
  pub is : stored n ≡ record (stored m) { slots = set (stored m).slots i (Some s); free_cells = n.heap.free_cells; left = (stored n).left }

-- From the invariant, the cursor and the measure.
pub replaced : {m : Machine} (w : Whole m) (g : HeapGraph) (q : Progress) (i : ℕ) (s : Spot) → body_of g (lists_of m.roots) ≡ put (body m) i (Some s) → i < length (body m).slots → (HasRoot (bare (lists_of m.roots)) i → Some s.serial ≡ slot_serial (body m) i)
    → g.cell_count ≡ m.heap.cell_count → g.key ≡ m.heap.key → Invariant (body_of g (lists_of m.roots)) (progress_in g q) → CursorFits g q → values.shown (progress_in g q) ≡ values.shown (progress_of m)
    → left g.cell_count (body_of g (lists_of m.roots)) (progress_in g q) ≤ (stored m).left → Replaced m (record m { heap = g; progress = q }) i s
replaced {m = m} w g q i s shows inside named count key holds cursor stage less = record {
  whole = record { kept = holds; cursor = cursor; roots = roots_move (lists_of m.roots) (body m) (body_of g (lists_of m.roots)) names w.roots };
  left = less;
  is = stored_is m g q m.roots (lists_of m.roots) (set (stored m).slots i (Some s)) (ap (λ (b : Body). b.slots) shows) stage count key refl;
} where
  names : (j : ℕ) → HasRoot (bare (lists_of m.roots)) j → slot_serial (body_of g (lists_of m.roots)) j ≡ slot_serial (body m) j
  names j r = ap (λ (b : Body). slot_serial b j) shows ∙ put_each (λ j x. HasRoot (bare (lists_of m.roots)) j → spot_serial x ≡ slot_serial (body m) j) (body m) i (Some s) inside named (λ j n r. refl) j r

-- A held slot has other edges, or another text; its vertex stays.
module _ {m : Machine} {id : ℕ} (w : Whole m) (h : Holds m id) where
  -- The graph of what is then held.
  pub graph_after : (n : Machine) (es : List Edge) (text : List ℕ) → Replaced m n id (record (owner h) { edges = es; text = text })
      → (next : ℕ) → held (stored n) next ≡ graph.held (set (kept_from (stored m).stage 0 (stored m).slots) id (Some (record (as_kept (owner h)) { edges = es; text = text }))) next
  graph_after n es text c next = ap (λ (v : Stored). held v next) c.is
      ∙ ap (λ os. graph.held os next) (held_set (stored m).stage id (stored m).slots _
      ∙ ap (set (kept_from (stored m).stage 0 (stored m).slots) id) (rw (held_keeps (shown_body (stored m)) (stored m).stage id (as_kept (owner h)) h.shows (owner h) (owner_is h)) refl))

-- A held slot of a sound heap has other edges.
module _ {m : Machine} {id : ℕ} (ok : IsHeap m.heap) (w : Whole m) (h : Holds m id) where
  within : id < length m.heap.lists
  within = let z = at_within m.heap.table.slots id h.occupant h.is in let o = ok.owners in omega (arith, z, o)

  shows : (es : List Edge) (k : ℕ) → body_of (relisted m.heap id k es) (lists_of m.roots) ≡ put (body m) id (Some (record (owner h) { edges = es }))
  shows es k = put_list m.heap (lists_of m.roots) id k h.occupant es ok.owners h.is

  once : (es : List Edge) (k : ℕ) → IsHeap (relisted m.heap id k es) → Distinct (cells es)
  once es k ok' = rw (get_or-set_same m.heap.lists id es [] within) at (ok'.cells.cell_once id)

  -- An edge comes, to a seat's target unless the collector rests.
  pub edge_put : (e : Edge) (k : ℕ) → place (stored m) e.target ≡ Some e.serial → e.target ≢ id → IsTarget (body m) e.target ⊎ (progress_of m ≡ AtRest) → IsHeap (relisted m.heap id k (e ∷ edges m.heap id))
      → Replaced m (record m { heap = relisted m.heap id k (e ∷ edges m.heap id) }) id (record (owner h) { edges = e ∷ edges m.heap id })
  edge_put e k there apart rooted ok' =
      let g = relisted m.heap id k (e ∷ edges m.heap id) in
      let t = place_kept (stored m) e.target e.serial there in
      let p = puts_progress m.heap id k within e m.progress (once (e ∷ edges m.heap id) k ok') w.cursor in
      let step : PutsEdge (body m) (progress_of m) id e (body_of g (lists_of m.roots)) =
      record {
        owner = owner h;
        at = owner_is h;
        held = (as_kept (owner h), h.shows);
        there = (t.0, t.1, t.2);
        apart = apart;
        target = rooted;
        is = shows (e ∷ edges m.heap id) k;
      } in
      replaced w g m.progress id (record (owner h) { edges = e ∷ edges m.heap id }) (shows (e ∷ edges m.heap id) k) (owner_within h) (λ r. sym (ap spot_serial (owner_is h))) refl refl
      (rw p.0 (puts_keeps (body m) (body_of g (lists_of m.roots)) (progress_of m) id e step w.kept)) p.1 (ap values.shown p.0) (rw p.0 (left_puts (body m) (body_of g (lists_of m.roots)) (progress_of m) id m.heap.cell_count e step))

  -- An edge gives way to others to the same vertex.
  pub edge_trimmed : (before : List Edge) (e : Edge) (news after : List Edge) (k : ℕ) → edges m.heap id ≡ before ++ e ∷ after → ((x : Edge) → Contains news x → (x.target ≡ e.target) × (x.serial ≡ e.serial)) → length news ≤ 1
      → IsHeap (relisted m.heap id k (before ++ (news ++ after)))
      → Replaced m (record m { heap = relisted m.heap id k (before ++ (news ++ after)); progress = progress_without m.progress id e.cell (first_cell (news ++ after)) }) id (record (owner h) { edges = before ++ (news ++ after) })
  edge_trimmed before e news after k was alike few ok' =
      let es = before ++ (news ++ after) in
      let g = relisted m.heap id k es in
      let q = progress_without m.progress id e.cell (first_cell (news ++ after)) in
      let t = trims m.heap id k within before e news after m.progress was (ok.cells.cell_once id) (once es k ok') w.cursor in
      let step : DropsEdge (body m) (progress_of m) id before e news after (body_of g (lists_of m.roots)) (progress_in g q) =
      record { owner = owner h; at = owner_is h; edges = was; alike = alike; stage = t.0; is = shows es k } in
      replaced w g q id (record (owner h) { edges = es }) (shows es k) (owner_within h) (λ r. sym (ap spot_serial (owner_is h))) refl refl (drops_keeps (body m) (body_of g (lists_of m.roots)) (progress_of m) (progress_in g q) id before e news after step w.kept) t.1
      (trims_stage id before e news after (progress_of m) (progress_in g q) t.0) (left_drops (body m) (body_of g (lists_of m.roots)) (progress_of m) (progress_in g q) id before e news after m.heap.cell_count step few)

-- An edge gets another label.
abbrev pub relabel : Edge → Letters → List Edge
relabel e rights = record e { rights = rights } ∷ []

pub alike : (e : Edge) (rights : Letters) (x : Edge) → Contains (relabel e rights) x → (x.target ≡ e.target) × (x.serial ≡ e.serial)
alike e rights x c = grind arith

pub edge_relabelled : {m : Machine} {id y : ℕ} (ok : IsHeap m.heap) (w : Whole m) (h : Holds m id) (f : Found (edges m.heap id) y) (rights : Letters) → IsHeap (relabelled m.heap id y f rights)
    → Replaced m (record m { heap = relabelled m.heap id y f rights }) id (record (owner h) { edges = f.before ++ (relabel f.edge rights ++ f.after) })
edge_relabelled {m = m} {id = id} {y = y} ok w h f rights ok' = subst (λ (q : Progress). Replaced m (record m { heap = relabelled m.heap id y f rights; progress = q }) id (record (owner h) { edges = f.before ++ (relabel f.edge rights ++ f.after) }))
    (without_same m.progress id f.edge.cell) (edge_trimmed ok w h f.before f.edge (relabel f.edge rights) f.after m.heap.free_cells f.is (alike f.edge rights) (omega arith) ok')
