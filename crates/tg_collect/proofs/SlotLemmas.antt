-- What each change of the heap is in one list of slots.
use Rattle.std.proofs.Common.{◌≡◌, ◌≢◌, zero, suc, List, [], ◌∷◌, length, Option, Some, None, sym, ◌∙◌, ap, refl, arith, get_or, set, ◌+◌, ◌<◌, drop, inl, inr, subst, length-set, map, cond, drop-cons, length-append, sum_by, ℕ}
use Rattle.tg_collect.proofs.Common.{Occupant, Colour, White, Table, Free, Has, slot, Edge, HeapGraph, edges, mark_at, shaded, Spot, slot_mark, put, shade, RootLists, bare, body_of, length-map, Contains, Body, stored, HasRoot, at_within, Root, Machine, IsListed, lists_of, slot_of, slots_of, body, Whole, new_colour, Progress, progress_in, sum_by-cons, Distinct, IsHeap, total, get_or_default, get_or-map, same_Some, contains_left, contains_right, contains_append, contains_map, coloured, if_free, painted, out, IsRootSlot, free_one, Celled, join, zip, all_slots, all_shaded, with_shaded, AreWithin, other_slots, has_passed, colour_ahead, Roots, shade_all}
pub use Rattle.tg_marking.proofs.SpotLemmas.{contains_mapped, kept_within}
use Rattle.tg_graph.proofs.ListedLemmas.{placed}
use Rattle.tg_marking.specs.Promise.Values as values
use Rattle.tg_marking.specs.Promise.Values.{spot}

pub zip_at : (os : List (Option Occupant)) (ls : List (List Edge)) (i : ℕ) → get_or (zip os ls) i None ≡ join (get_or os i None) (get_or ls i [])
zip_at [] ls i = refl
zip_at (o ∷ os) [] zero = refl
zip_at (o ∷ os) [] (suc i) = zip_at os [] i
zip_at (o ∷ os) (l ∷ ls) zero = refl
zip_at (o ∷ os) (l ∷ ls) (suc i) = zip_at os ls i

pub zip_slot : (os : List (Option Occupant)) (ls : List (List Edge)) (i : ℕ) (o : Option Occupant) → zip (set os i o) ls ≡ set (zip os ls) i (join o (get_or ls i []))
zip_slot [] ls i p = refl
zip_slot (o ∷ os) [] zero p = refl
zip_slot (o ∷ os) [] (suc i) p = ap (λ xs. join o [] ∷ xs) (zip_slot os [] i p)
zip_slot (o ∷ os) (l ∷ ls) zero p = refl
zip_slot (o ∷ os) (l ∷ ls) (suc i) p = ap (λ xs. join o l ∷ xs) (zip_slot os ls i p)

pub zip_list : (os : List (Option Occupant)) (ls : List (List Edge)) (i : ℕ) (l : List Edge) → length ls ≡ length os → zip os (set ls i l) ≡ set (zip os ls) i (join (get_or os i None) l)
zip_list [] ls i m e = refl
zip_list (o ∷ os) [] i m e = absurd (omega (arith, e))
zip_list (o ∷ os) (l ∷ ls) zero m e = refl
zip_list (o ∷ os) (l ∷ ls) (suc i) m e = ap (λ xs. join o l ∷ xs) (zip_list os ls i m (omega (arith, e)))

pub zip_size : (os : List (Option Occupant)) (ls : List (List Edge)) → length (zip os ls) ≡ length os
zip_size [] ls = refl
zip_size (o ∷ os) [] = ap suc (zip_size os [])
zip_size (o ∷ os) (l ∷ ls) = ap suc (zip_size os ls)

abbrev pub as_spot : Occupant → List Edge → Spot
as_spot o l = record { serial = o.serial; kind = o.kind; text = o.text; edges = l; colour = o.colour }

-- The parts of a slot.
pub at_slot : (h : HeapGraph) (rs : RootLists) (i : ℕ) (o : Occupant) → slot h.table i ≡ Some o → spot (body_of h rs) i ≡ Some (as_spot o (edges h i))
at_slot h rs i o e = zip_at h.table.slots h.lists i ∙ ap (λ q. join q (edges h i)) e

pub at_free : (h : HeapGraph) (rs : RootLists) (i : ℕ) → mark_at h i ≡ Free → spot (body_of h rs) i ≡ None
at_free h rs i m = let z = zip_at h.table.slots h.lists i in grind arith

pub occupied : (h : HeapGraph) (i : ℕ) → mark_at h i ≢ Free → (o : Occupant) × (slot h.table i ≡ Some o)
occupied h i m = grind arith

pub coloured_so : (h : HeapGraph) (i : ℕ) (c : Colour) → mark_at h i ≡ Has c → (o : Occupant) × (slot h.table i ≡ Some o) × (o.colour ≡ c)
coloured_so h i c m = grind arith

pub mark_so : (h : HeapGraph) (rs : RootLists) (i : ℕ) → slot_mark (body_of h rs) i ≡ mark_at h i
mark_so h rs i = let z = zip_at h.table.slots h.lists i in grind arith

-- A vertex that was put or replaced, a list that was replaced, and a colour.
pub put_slot : (h : HeapGraph) (rs : RootLists) (i : ℕ) (o : Option Occupant) (free : List ℕ)
    → body_of (record h { table = record h.table { slots = set h.table.slots i o; free = free } }) rs ≡ put (body_of h rs) i (join o (edges h i))
put_slot h rs i o free = ap (λ xs. record { slots = xs; grey = h.table.grey; roots = bare rs }) (zip_slot h.table.slots h.lists i o)

pub put_list : (h : HeapGraph) (rs : RootLists) (i n : ℕ) (o : Occupant) (l : List Edge) → length h.lists ≡ length h.table.slots → slot h.table i ≡ Some o
    → body_of (record h { lists = set h.lists i l; free_cells = n }) rs ≡ put (body_of h rs) i (Some (as_spot o l))
put_list h rs i n o l e is = ap (λ xs. record { slots = xs; grey = h.table.grey; roots = bare rs }) (zip_list h.table.slots h.lists i l e ∙ ap (λ q. set (zip h.table.slots h.lists) i (join q l)) is)

pub painted_so : (h : HeapGraph) (rs : RootLists) (i : ℕ) (o : Occupant) (c : Colour) → slot h.table i ≡ Some o
    → body_of (record h { table = painted h.table i c }) rs ≡ put (body_of h rs) i (Some (record (as_spot o (edges h i)) { colour = c }))
painted_so h rs i o c e = ap (λ xs. record { slots = xs; grey = h.table.grey; roots = bare rs })
    (zip_slot h.table.slots h.lists i (coloured c (slot h.table i)) ∙ ap (λ q. set (zip h.table.slots h.lists) i (join (coloured c q) (edges h i))) e)

pub shaded_so : (h : HeapGraph) (rs : RootLists) (i : ℕ) → body_of (record h { table = shaded h.table i }) rs ≡ shade (body_of h rs) i
shaded_so h rs i = let z = zip_at h.table.slots h.lists i in grind (arith, zip_slot h.table.slots h.lists i)

pub all_so : (h : HeapGraph) (rs : RootLists) (xs : List (Option ℕ)) → body_of (record h { table = all_shaded xs h.table }) rs ≡ shade_all (body_of h rs) xs
all_so h rs [] = refl
all_so h rs (None ∷ xs) = all_so h rs xs
all_so h rs (Some i ∷ xs) = shaded_so (record h { table = all_shaded xs h.table }) rs i ∙ ap (λ (b : Body). shade b i) (all_so h rs xs)

-- The roots of a machine: their slots and their serials.
-- A root by its slot.
some_slot : (o : Option Root) (i : ℕ) → slot_of o ≡ Some i → (r : Root) × (o ≡ Some r) × (r.slot ≡ i)
some_slot o i e = grind arith

-- The slot of a place of the targets, and back.
pub seat_slot : (xs : List (Option Root)) (k : ℕ) (r : Root) → get_or xs k None ≡ Some r → get_or (slots_of xs) k None ≡ Some r.slot
seat_slot xs k r e = get_or-map slot_of xs k None ∙ ap slot_of e

slot_seat : (xs : List (Option Root)) (k i : ℕ) → get_or (slots_of xs) k None ≡ Some i → (r : Root) × (get_or xs k None ≡ Some r) × (r.slot ≡ i)
slot_seat xs k i e = some_slot (get_or xs k None) i (sym (get_or-map slot_of xs k None) ∙ e)

pub at_index : {X : Type 0} (xs : List X) (k : ℕ) (d : X) → k < length xs → Contains xs (get_or xs k d)
at_index [] k d b = absurd (omega (arith, b))
at_index (x ∷ xs) zero d b = inl refl
at_index (x ∷ xs) (suc k) d b = inr (at_index xs k d (omega (arith, b)))

pub seat_contains : {X : Type 0} (xs : List (Option X)) (k : ℕ) (r : X) → get_or xs k None ≡ Some r → Contains xs (Some r)
seat_contains xs k r e = subst (Contains xs) e (at_index xs k None (at_within xs k r e))

pub contains_seat : {X : Type 0} (xs : List (Option X)) (r : X) → Contains xs (Some r) → (k : ℕ) × (get_or xs k None ≡ Some r)
contains_seat xs r h = let p = placed xs (Some r) None h in (p.0, p.2)

-- What indexing a list says, whatever stands behind its end.
pub at_seat : {X : Type 0} (xs : List (Option X)) (k : ℕ) (x : Option X) (r : X) → k < length xs → x ≡ get_or xs k x → x ≡ Some r → get_or xs k None ≡ Some r
at_seat xs k x r b e is = get_or_default xs k None x b ∙ sym e ∙ is

-- A root of the bare lists is one of the lists, and back.
pub root_listed : (rs : RootLists) (i : ℕ) → HasRoot (bare rs) i → (r : Root) × IsListed rs r × (r.slot ≡ i)
root_listed rs i (inl (k, e)) = let r = slot_seat rs.targets k i e in (r.0, inl (seat_contains rs.targets k r.0 r.1), r.2)
root_listed rs i (inr h) = elim (contains_append (all_slots rs.principals) (slots_of rs.agents) (Some i) h) [
  | inl p ↦ (let r = contains_mapped (λ (q : Root). Some q.slot) rs.principals (Some i) p in (r.0, inr (inl r.1), same_Some r.0.slot i r.2))
  | inr a ↦ (let o = contains_mapped slot_of rs.agents (Some i) a in let r = some_slot o.0 i o.2 in (r.0, inr (inr (subst (Contains rs.agents) r.1 o.1)), r.2))
]

pub roots_by : (rs : RootLists) (P : ℕ → Type 0) → ((r : Root) → IsListed rs r → P r.slot) → (i : ℕ) → HasRoot (bare rs) i → P i
roots_by rs P f i h = let r = root_listed rs i h in subst P r.2 (f r.0 r.1)

pub listed_root : (rs : RootLists) (r : Root) → IsListed rs r → HasRoot (bare rs) r.slot
listed_root rs r (inl h) = let s = contains_seat rs.targets r h in inl (s.0, seat_slot rs.targets s.0 r s.1)
listed_root rs r (inr (inl h)) = inr (contains_left (all_slots rs.principals) (slots_of rs.agents) (Some r.slot) (contains_map (λ (q : Root). Some q.slot) rs.principals r h))
listed_root rs r (inr (inr h)) = inr (contains_right (all_slots rs.principals) (slots_of rs.agents) (Some r.slot) (contains_map slot_of rs.agents (Some r) h))

-- A root's slot is one of the table's.
pub root_within : (m : Machine) (i : ℕ) → Whole m → IsRootSlot (body m) i → i < length m.heap.table.slots
root_within m i w r = let k = w.kept.closed.roots i r in rw zip_size at (kept_within (body m) (stored m).stage i k.0 k.1)

pub seat_root : (m : Machine) (seat : ℕ) (o : Option Root) (r : Root) → Whole m → seat < length m.roots.targets.items → o ≡ get_or m.roots.targets.items seat o → o ≡ Some r
    → (get_or (body m).roots.targets seat None ≡ Some r.slot) × (r.slot < length m.heap.table.slots)
seat_root m seat o r w l at is = let slot = seat_slot m.roots.targets.items seat r (at_seat m.roots.targets.items seat o r l at is) in (slot, root_within m r.slot w (inl (seat, slot)))

-- A seat's target is not white if its root is not.
pub not_white : (m : Machine) (k i : ℕ) → get_or (body m).roots.targets k None ≡ Some i → ((r : Root) → get_or m.roots.targets.items k None ≡ Some r → mark_at m.heap r.slot ≢ Has White) → slot_mark (body m) i ≢ Has White
not_white m k i t n w =
    let r = slot_seat m.roots.targets.items k i t in
    n r.0 r.1 (sym (mark_so m.heap (lists_of m.roots) r.0.slot) ∙ subst (λ (j : ℕ). slot_mark (body m) j ≡ Has White) (sym r.2) w)

-- Shading leaves the free list, and the number of slots.
pub all_same : (xs : List (Option ℕ)) (t : Table) → ((all_shaded xs t).free ≡ t.free) × (length (all_shaded xs t).slots ≡ length t.slots)
all_same [] t = (refl, refl)
all_same (None ∷ xs) t = all_same xs t
all_same (Some i ∷ xs) t = let s = all_same xs t in grind (arith, length-set (all_shaded xs t).slots i)

pub other_count : (rs : Roots) → length (other_slots rs) ≡ length rs.principals + length rs.agents.items
other_count rs = simp (length-append, length-map)

-- The loop that starts a cycle: the roots from an index on were shaded, and nothing else changed.
abbrev pub ShadedFrom : (m n : Machine) → ℕ → Type 0
ShadedFrom m n left = n ≡ with_shaded m (drop left (other_slots m.roots))

module _ (m n : Machine) (left : ℕ) (from : ShadedFrom m n left) where
  pub still_within : AreWithin (other_slots m.roots) m.heap.table → AreWithin (other_slots n.roots) n.heap.table
  still_within w = subst (λ (k : Machine). AreWithin (other_slots k.roots) k.heap.table) (sym from) (λ i h. rw (all_same (drop left (other_slots m.roots)) m.heap.table).1 (w i h))

  pub shaded_more : (k : Machine) (next : ℕ) → left ≡ suc next → next < length (other_slots m.roots) → k ≡ with_shaded n (get_or (other_slots n.roots) next None ∷ []) → ShadedFrom m k next
  shaded_more k next is b shaded = shaded ∙ ap (λ (y : Machine). with_shaded y (get_or (other_slots y.roots) next None ∷ [])) (subst (ShadedFrom m n) is from) ∙ ap (with_shaded m) (sym (drop-cons (other_slots m.roots) next None b))

-- How many slots and cells are in use.
-- A sum over indices is the list's.
total_first : (f : ℕ → ℕ) (n : ℕ) → total f (suc n) ≡ f 0 + total (λ i. f (suc i)) n
total_first f zero = omega arith
total_first f (suc n) = let rest = total_first f n in omega (arith, rest)

pub total_list : {X : Type 0} (f : X → ℕ) (xs : List X) (d : X) → total (λ i. f (get_or xs i d)) (length xs) ≡ sum_by f xs
total_list f [] d = refl
total_list f (x ∷ xs) d = let a = total_first (λ i. f (get_or (x ∷ xs) i d)) (length xs) in let b = total_list f xs d in let c = sum_by-cons f x xs in omega (arith, a, b, c)

pub total_none : (f : ℕ → ℕ) (n : ℕ) → ((i : ℕ) → f i ≡ 0) → total f n ≡ 0
total_none f zero e = refl
total_none f (suc n) e = let a = total_none f n e in let b = e n in omega (arith, a, b)

-- The free slots are those of the free list.
pub free_so : (h : HeapGraph) (rs : RootLists) → IsHeap h → total (λ i. free_one (spot (body_of h rs) i)) (length (zip h.table.slots h.lists)) ≡ length h.table.free
free_so h rs ok =
    let one : (i : ℕ) → free_one (spot (body_of h rs) i) ≡ if_free (slot h.table i) = λ i. let z = zip_at h.table.slots h.lists i in grind arith in
    (λ n. total (λ i. one i n) (zip_size h.table.slots h.lists n)) ∙ total_list if_free h.table.slots None ∙ sym ok.table.free_count

-- Each slot's edges are its list: a free slot has none.
pub out_all : (h : HeapGraph) (rs : RootLists) → IsHeap h → (i : ℕ) → out (body_of h rs) i ≡ edges h i
out_all h rs ok i = let z = zip_at h.table.slots h.lists i in let bare = ok.free_bare i in grind arith

pub cells_so : (h : HeapGraph) (rs : RootLists) → IsHeap h → total (λ i. length (out (body_of h rs) i)) (length (zip h.table.slots h.lists)) + h.free_cells ≡ h.cell_count
cells_so h rs ok =
    let size : length (zip h.table.slots h.lists) ≡ length h.lists = zip_size h.table.slots h.lists ∙ sym ok.owners in
    let sum = (λ n. total (λ i. length (out_all h rs ok i n)) (size n)) ∙ total_list length h.lists [] in
    let whole = ok.cells.whole in omega (arith, sum, whole)

pub celled : (h : HeapGraph) (rs : RootLists) → IsHeap h → Celled (body_of h rs) h.cell_count
celled h rs ok = record {
  once = λ i. subst (λ (es : List Edge). Distinct (map (λ e. e.serial) es)) (sym (out_all h rs ok i)) (ok.cells.serial_once i);
  few = let c = cells_so h rs ok in omega (arith, c);
}

-- A vertex that comes has the colour for its slot.
pub colour_so : (h : HeapGraph) (p : Progress) (i : ℕ) → cond (has_passed p i) White (colour_ahead p) ≡ new_colour (values.shown (progress_in h p)) i
colour_so h p i = grind arith
