-- Each step of the machine is a line of the table.
use Rattle.std.proofs.Common.{◌≡◌, ◌+◌, ◌<◌, ◌≤◌, List, [], ◌∷◌, ◌++◌, length, Option, Some, None, Bool, true, false, sym, ◌∙◌, subst, ap, refl, arith, ◌≢◌, ◌⊎◌, inl, inr, ℕ, get_or-set_other, filter, is_some}
use Rattle.tg_collect.proofs.Common.{turns_name, Contains, Grey, Has, Edge, first_cell, HeapGraph, edges, mark_at, IsHeap, remaining, Spot, Body, slot_mark, Machine, RootLists, lists_of, body_of, body, progress_in, progress_of, CursorFits, Whole, spot_mark, put, IsListed, stored, same_Some, passed, split_whole, remaining_split, shade_all, Line, finishes, starts, starts_sweep, scans, blackens, shades_target, whitens, strips, frees, IsScanned, Phased, shade_each, line_keeps, line_collected, bounded, Steps, all_shaded, shown_body, all_slots, slots_of, phase_in, Collected, most_marks, Counts, AreRoots, HasRoot, Invariant, Root, bare, IsLinkedBy}
use Rattle.tg_marking.specs.Promise.Values as values
use Rattle.tg_collect.specs.declared.machine.Progress.TheVariants as course
use Rattle.tg_collect.specs.declared.machine.Progress as declared
use Rattle.tg_marking.specs.Promise.Collected as marking
use Rattle.tg_collect.specs.declared.note.Phase.TheVariants as phases
use Rattle.tg_marking.specs.Promise.Values.{slot_serial, spot, Progress}
use Rattle.tg_marking.proofs.SpotLemmas.{kept_name}
use Rattle.tg_collect.specs.Promise.Views.{ChangesMarks}
use Rattle.tg_collect.specs.Inner.Machine.{NoneWhite, so_far}
use Rattle.tg_collect.proofs.SlotLemmas.{mark_so, listed_root, celled, free_so, all_same, zip_size}
use Rattle.tg_collect.proofs.ShownLemmas.{held_same}

-- The cell under scan is in its slot's list.
pub scan_linked : (m : Machine) (i c : ℕ) → m.progress ≡ course.Marking (Some (record { slot = i; cursor = Some c })) → Whole m → IsLinkedBy m.heap.lists c i
scan_linked m i c at w = by (remaining (Some c) (edges m.heap i)) refl (subst (CursorFits m.heap) at w.cursor) where
  by : (r : List Edge) → remaining (Some c) (edges m.heap i) ≡ r → Some c ≡ first_cell (remaining (Some c) (edges m.heap i)) → IsLinkedBy m.heap.lists c i
  by [] is fits = absurd (let u : Some c ≡ None = fits ∙ ap first_cell is in cc)
  by (e ∷ r) is fits = record {
    before = passed (Some c) (edges m.heap i);
    edge = e;
    after = r;
    stands = record {
      is = sym (split_whole (Some c) (edges m.heap i)) ∙ ap (λ (a : List Edge). passed (Some c) (edges m.heap i) ++ a) is;
      here = same_Some e.cell c (sym (fits ∙ ap first_cell is));
    };
  }

-- A cursor at the first cell of the last edges: these are left.
pub cursor_left : (h : HeapGraph) (i : ℕ) (before after : List Edge) → IsHeap h → edges h i ≡ before ++ after → remaining (first_cell after) (edges h i) ≡ after
cursor_left h i before after ok is = rw is (remaining_split before after (rw is at (ok.cells.cell_once i)))

-- The slot under scan is grey, and waits no longer.
pub scanned : (m : Machine) (i : ℕ) (c : Option ℕ) → m.progress ≡ course.Marking (Some (record { slot = i; cursor = c })) → Whole m → (mark_at m.heap i ≡ Has Grey) × (Contains m.heap.table.grey i → ⊥)
scanned m i c at w =
    let s = w.kept.greys.scanned i (subst (λ (p : declared.Progress). IsScanned (progress_in m.heap p) i) (sym at) refl) in
    (sym (mark_so m.heap (lists_of m.roots) i) ∙ s.0, s.1)

-- A machine's step from a line: what the heap shows after it, and what it frees.
pub step_of : (m : Machine) (h : HeapGraph) (p : declared.Progress) {q : declared.Progress} {b : Body} {freed : ℕ} {ended : Bool} → m.progress ≡ q → body_of h (lists_of m.roots) ≡ b
    → Line (body m) (progress_in m.heap q) b (progress_in h p) freed ended → CursorFits h p → Counts m.heap h freed → Steps m (record m { heap = h; progress = p }) freed ended
step_of m h p at shows line cursor counts = record { line = rw (at, shows) line; cursor = cursor; roots = refl; counts = counts }

-- Shading frees nothing.
pub shaded_counts : (h : HeapGraph) (xs : List (Option ℕ)) → Counts h (record h { table = all_shaded xs h.table }) 0
shaded_counts h xs = let f = ap length (all_same xs h.table).0 in record { cells = refl; key = refl; free_slots = omega (arith, f); free_cells = omega arith }

-- What a collector step leaves, and what contracts see of it.
-- The slot before the sweep is not grey.
pub sweep_dark : (m : Machine) (k : ℕ) → m.progress ≡ course.Sweeping k → Whole m → mark_at m.heap k ≢ Has Grey
sweep_dark m k at w g = (subst (λ (p : declared.Progress). Phased (body m) (progress_in m.heap p)) at w.kept.phase).1 k (omega arith) (mark_so m.heap (lists_of m.roots) k ∙ g)

pub whole_steps : (m n : Machine) (freed : ℕ) (ended : Bool) → Steps m n freed ended → Whole m → Whole n
whole_steps m n freed ended s w = record { kept = kept; cursor = s.cursor; roots = subst (λ (q : RootLists). AreRoots q (body n)) (sym same) (record { seats = w.roots.seats; few = w.roots.few; agents = w.roots.agents; named = named }) } where
  same : lists_of n.roots ≡ lists_of m.roots
  same = ap lists_of s.roots

  kept : Invariant (body n) (progress_of n)
  kept = line_keeps (body m) (body n) (progress_of m) (progress_of n) freed ended s.line w.kept

  -- a root is held then, by a slot that named it before
  named : (r : Root) → IsListed (lists_of m.roots) r → slot_serial (body n) r.slot ≡ Some r.serial
  named r h =
      let k = kept.closed.roots r.slot (subst (λ (q : RootLists). HasRoot (bare q) r.slot) (sym same) (listed_root (lists_of m.roots) r h)) in
      let now = kept_name (stored n).stage r.slot (spot (body n) r.slot) k.0 k.1 in
      let turned = (line_collected (body m) (body n) (progress_of m) (progress_of n) freed ended s.line w.kept).turns r.slot in
      now ∙ sym (turns_name (body m) (stored m).stage r.slot k.0.serial _ _ turned now) ∙ w.roots.named r h

-- A line frees a slot in the sweep, and one at most.
line_frees : (b b' : Body) (p p' : Progress) (n : ℕ) (e : Bool) → Line b p b' p' n e → ((phase_in (values.shown p) ≡ phases.Sweep) ⊎ (n ≡ 0)) × (n ≤ 1)
line_frees b b' p p' n e l = grind arith

-- Which marks a line changes: that of one slot, or at the start those of the roots.
one_mark : (b : Body) (k : ℕ) (o : Option Spot) → ChangesMarks (slot_mark b) (slot_mark (put b k o)) 1
one_mark b k o = record { slots = k ∷ []; count = omega arith; others = λ i n. ap spot_mark (get_or-set_other b.slots k i o None (λ e. n (inl e))) }

root_marks : (b : Body) (rs : List (Option ℕ)) → ChangesMarks (slot_mark b) (slot_mark (shade_all b rs)) (length (filter (λ o. is_some o) rs))
root_marks b [] = record { slots = []; count = omega arith; others = λ i n. refl }
root_marks b (None ∷ rs) = root_marks b rs
root_marks b (Some i ∷ rs) = let old = root_marks b rs in let l = old.count in record {
  slots = i ∷ old.slots;
  count = omega (arith, l);
  others = shade_each (λ j o. (Contains (i ∷ old.slots) j → ⊥) → spot_mark o ≡ slot_mark b j) (shade_all b rs) i (λ s e w m. absurd (m (inl refl))) (λ j m. old.others j (λ h. m (inr h)));
}

some_others : (ps : List Root) (os : List (Option Root)) → length (filter (λ o. is_some o) (all_slots ps ++ slots_of os)) ≡ length ps + length (filter (λ o. is_some o) os)
some_others [] [] = refl
some_others [] (None ∷ os) = some_others [] os
some_others [] (Some r ∷ os) = let rest = some_others [] os in omega (arith, rest)
some_others (p ∷ ps) os = let rest = some_others ps os in omega (arith, rest)

line_marks : (b b' : Body) (p p' : Progress) (n : ℕ) (e : Bool) (rs : RootLists) → b.roots ≡ bare rs → Line b p b' p' n e → ChangesMarks (slot_mark b) (slot_mark b') (most_marks rs (phase_in (values.shown p)))
line_marks b _ _ _ _ _ rs is starts =
    subst (λ (most : ℕ). ChangesMarks (slot_mark b) (slot_mark (shade_all b b.roots.others)) most) (ap (λ (q : values.Roots). length (filter (λ o. is_some o) q.others)) is ∙ some_others rs.principals rs.agents) (root_marks b b.roots.others)
line_marks b _ _ _ _ _ rs is (scans i e r) = root_marks b (Some e.target ∷ [])
line_marks b _ _ _ _ _ rs is (shades_target k i l r w least) = root_marks b (Some i ∷ [])
line_marks b _ _ _ _ _ rs is (blackens i s at) = one_mark b i _
line_marks b _ _ _ _ _ rs is (whitens k s at c) = one_mark b k _
line_marks b _ _ _ _ _ rs is (strips k s e r at c m) = one_mark b k _
line_marks b _ _ _ _ _ rs is (frees k s at c m) = one_mark b k _
line_marks b _ _ _ _ _ rs is l = record { slots = []; count = omega arith; others = λ i n. refl }

-- A collector step as contracts see it.
line_left : (m n : Machine) (freed : ℕ) (ended : Bool) → Line (body m) (progress_of m) (body n) (progress_of n) freed ended → n.heap.cell_count ≡ m.heap.cell_count → IsHeap m.heap → Whole m
    → (ended ≡ true) ⊎ ((stored n).left < (stored m).left)
line_left m n freed true l cells ok w = inl refl
line_left m n freed false l cells ok w = inr (rw cells (bounded.lower (body m) (body n) (progress_of m) (progress_of n) freed m.heap.cell_count l w.kept (celled m.heap (lists_of m.roots) ok)))

pub collected : (m n : Machine) (freed : ℕ) (ended : Bool) → Steps m n freed ended → IsHeap m.heap → IsHeap n.heap → Whole m → Collected (stored m) (stored n) freed ended
collected m n freed ended s ok ok' w = record {
  step = step;
  held = λ y. held_same (stored m) (stored n) step.size (step.held y);
  roots = ap lists_of s.roots;
  cells = s.counts.cells;
  key = s.counts.key;
  freed = freed_so.0;
  few = freed_so.1;
  free_slots = let a = free_so m.heap (lists_of m.roots) ok in let b = free_so n.heap (lists_of n.roots) ok' in let f = s.counts.free_slots in omega (arith, a, b, f);
  free_cells = s.counts.free_cells;
  marks = line_marks (body m) (body n) (progress_of m) (progress_of n) freed ended (lists_of m.roots) refl s.line;
  left = line_left m n freed ended s.line s.counts.cells ok w;
} where
  step : marking.BodyCollected (shown_body (stored m)) (stored m).stage (shown_body (stored n)) (stored n).stage ended
  step = line_collected (body m) (body n) (progress_of m) (progress_of n) freed ended s.line w.kept

  freed_so : ((phase_in (values.shown (progress_of m)) ≡ phases.Sweep) ⊎ (freed ≡ 0)) × (freed ≤ 1)
  freed_so = line_frees (body m) (body n) (progress_of m) (progress_of n) freed ended s.line

-- If nothing is grey and no target is white, the sweep begins.
pub sweep_begins : (m : Machine) → m.heap.table.grey ≡ [] → NoneWhite m → Steps (so_far m (course.Marking None)) (so_far m (course.Sweeping 0)) 0 false
sweep_begins m grey white = step_of (so_far m (course.Marking None)) m.heap (course.Sweeping 0) refl refl (starts_sweep grey white) tt (grind arith)

-- If the sweep has passed all slots, the cycle ends.
pub sweep_ends : (m : Machine) (k : ℕ) → length m.heap.table.slots ≤ k → Steps (so_far m (course.Sweeping k)) (so_far m course.Idle) 0 true
sweep_ends m k past = step_of (so_far m (course.Sweeping k)) m.heap course.Idle refl refl (finishes k (rw zip_size past)) tt (grind arith)

-- A step frees one slot at most.
pub frees_one : {m n : Machine} {freed : ℕ} {ended : Bool} → Steps m n freed ended → freed ≤ 1
frees_one {m} {n} {freed} {ended} s = (line_frees (body m) (body n) (progress_of m) (progress_of n) freed ended s.line).1
