-- What each store has.
use Rattle.std.proofs.Common.{◌≡◌, ◌≢◌, ℕ, ◌<◌, ◌≤◌, List, [], ◌∷◌, map, Option, Some, None, inl, inr, Bool, true, false, sym, ◌∙◌, subst, ap, refl, length, MatchOption, arith, get_or, ◌++◌}
use Rattle.tg_collect.proofs.Common.{has_none, kept_name, rights_where, Contains, contains_map, Has, Grey, Black, Triple, Spot, Body, Kept, as_kept, slot_mark, Root, Machine, IsListed, lists_of, body, Whole, Stored, stored, kept, place, root_serial, triples, kept_serial, IsHeldIn, IsParkedIn, spot_at, is_some, Letters, Right, has, is_none, Distinct, contains_middle, vertex_of, Free, slot, Occupant, Edge, HasNone, Found, edges, mark_at, IsHeap, pending_of, IsEdgeIn, held, slot_serial, at_within, some_right, shown_body, IsStore, unwrap_or, option_map, get_or-map, same_Some, none, includes, read, write, take, grant, same_by, split_at, right_some, IsEdge, Live, leads_on, contains-label, in_slot, Closed, Phased, IsLive, at_root, along, IsLiveIn, IsRootIn, IsRootAt, serial_at, principals}
use Rattle.std.specs.FinSet as finset
use Rattle.tg_marking.specs.Promise.Values as values
pub use Rattle.tg_marking.proofs.SpotLemmas.{kept_is, kept_name}
use Rattle.tg_marking.proofs.SpotLemmas.{kept_edges}
use Rattle.tg_collect.specs.Promise.Readings as readings
use Rattle.std.specs.FinMap as finmap
use Rattle.tg_rights.specs.Promise.Letters as right
use Rattle.tg_slots.specs.Promise.Table as table
use Rattle.tg_graph.specs.Promise.Protection.{label, Leads}
use Rattle.tg_marking.specs.Promise.Values.{parked_one, Progress, spot_edges}
use Rattle.tg_collect.specs.declared.note.Phase.TheVariants as phases
use Rattle.tg_collect.proofs.SlotLemmas.{at_index, listed_root, zip_at, as_spot, root_listed, contains_mapped, total_none, at_slot}
use Rattle.tg_graph.proofs.ListedLemmas.{placed}
use Rattle.tg_collect.proofs.ShownLemmas.{Once, triple_owned, held_at, held_kept, kept_held, place_kept, vertex_found, says_triple, edge_shown, shown_edge}

-- What is held has the slot's serial, and is the slot's vertex.
pub once_so : (v : Stored) → ((i j x : ℕ) → readings.serial_in_slot v i ≡ Some x → readings.serial_in_slot v j ≡ Some x → i ≡ j) → Once v
once_so v once i j k t e f s = once i j k.serial (kept_name v.stage i (spot_at v i) k e) (kept_name v.stage j (spot_at v j) t f ∙ ap (λ (x : ℕ). Some x) (sym s))

pub root_in : (v : Stored) (x : ℕ) → IsRootIn v x → (r : Root) × IsListed v.roots r × (r.serial ≡ x)
root_in v x h =
    let principal = contains_mapped (λ (r : Root). r.serial) v.roots.principals x in
    let target = contains_mapped (λ o. root_serial o) v.roots.targets (Some x) in
    let agent = contains_mapped (λ o. root_serial o) v.roots.agents (Some x) in
    grind arith

pub in_root : (v : Stored) (r : Root) → IsListed v.roots r → IsRootIn v r.serial
in_root v r (inl h) = inr (inl (contains_map (λ o. root_serial o) v.roots.targets (Some r) h))
in_root v r (inr (inl h)) = inl (contains_map (λ (q : Root). q.serial) v.roots.principals r h)
in_root v r (inr (inr h)) = inr (inr (contains_map (λ o. root_serial o) v.roots.agents (Some r) h))

-- Facts by slots.
pub closed_so : (m : Machine) → Whole m → Closed (kept (stored m)) (IsRootAt (stored m))
closed_so m w = w.kept.closed

pub named_so : (m : Machine) → Whole m → (r : Root) → IsListed (lists_of m.roots) r → place (stored m) r.slot ≡ Some r.serial
named_so m w r h =
    let k = w.kept.closed.roots r.slot (listed_root (lists_of m.roots) r h) in
    ap kept_serial k.1 ∙ sym (kept_name (stored m).stage r.slot _ k.0 k.1) ∙ w.roots.named r h

-- An element of a store is found by its place.
pub once_stored : (m : Machine) → Whole m → Once (stored m)
once_stored m w = once_so (stored m) w.kept.once

pub no_black : (b : Body) (p : Progress) → Phased b p → values.shown p ≡ values.Idle → (i : ℕ) → slot_mark b i ≢ Has Black
no_black b p f e = grind arith

pub swept_so : (b : Body) (p : Progress) (k : ℕ) → Phased b p → values.shown p ≡ values.Sweep k → ((i : ℕ) → i < k → slot_mark b i ≢ Has Black) × ((i : ℕ) → k ≤ i → slot_mark b i ≢ Has Grey)
swept_so b p k f e = grind arith

-- The ends of a triple are held, and two.
pub ends : (v : Stored) → Closed (kept v) (IsRootAt v) → Once v → (t : Triple) → finset.contains (triples v) t ≡ true → IsHeldIn v t.from × IsHeldIn v t.to × (t.from ≢ t.to)
ends v closed once t h =
    let o = triple_owned v t h in
    let here = sym (held_at v o.at) ∙ o.is in
    let l = closed.edges o.at o.kept o.edge here o.owned in (
      subst (IsHeldIn v) (sym o.from) (kept_held v o.at o.kept once here),
      subst (IsHeldIn v) (l.2 ∙ sym o.to) (kept_held v o.edge.target l.0 once l.1),
      λ e. l.3 (once o.edge.target o.at l.0 o.kept l.1 here (l.2 ∙ sym o.to ∙ sym e ∙ o.from)),
    )

-- What is held is not parked.
pub apart_so : (v : Stored) → ((i j x : ℕ) → readings.serial_in_slot v i ≡ Some x → readings.serial_in_slot v j ≡ Some x → i ≡ j) → (x : ℕ) → IsHeldIn v x → IsParkedIn v x → ⊥
apart_so v once x h (j, (s, at, dark), named) =
    let r = held_kept v x h in
    let here = once r.0 j x in
    let name_here = kept_name v.stage r.0 (spot_at v r.0) r.1 r.2 in grind arith

-- What the readers of a store answer.
-- A slot where something is held, with its vertex and its edges.
pub record Holds (m : Machine) (i : ℕ) : Type 0 where
  pub occupant : Occupant
  pub is : slot m.heap.table i ≡ Some occupant
  pub shows : kept (stored m) i ≡ Some (as_kept (as_spot occupant (edges m.heap i)))

pub holds : (m : Machine) (i : ℕ) → is_some (place (stored m) i) ≡ true → Holds m i
holds m i e = let z = zip_at m.heap.table.slots m.heap.lists i in grind arith

module _ {m : Machine} {i : ℕ} (h : Holds m i) where
  abbrev pub owner : Spot
  owner = as_spot h.occupant (edges m.heap i)

  pub owner_is : values.spot (body m) i ≡ Some owner
  owner_is = at_slot m.heap (lists_of m.roots) i h.occupant h.is

  pub owner_within : i < length (body m).slots
  owner_within = at_within (body m).slots i owner owner_is

  pub serial_is : serial_at (stored m) i ≡ h.occupant.serial
  serial_is = ap (λ k. unwrap_or (kept_serial k) 0) h.shows

  pub owner_place : place (stored m) i ≡ Some (serial_at (stored m) i)
  owner_place = ap kept_serial h.shows ∙ ap (λ (x : ℕ). Some x) (sym serial_is)

module _ (m : Machine) (i : ℕ) (e : is_some (place (stored m) i) ≡ true) where
  pub placed_within : i < length m.heap.table.slots
  placed_within = let h = holds m i e in at_within m.heap.table.slots i h.occupant h.is

  pub placed_mark : mark_at m.heap i ≢ Free
  placed_mark f = let h = holds m i e in let u : Free ≡ table.Has h.occupant.colour = sym f ∙ ap table.mark_of h.is in cc

  pub found_in : {X : Type 0} (f : Occupant → X) (r : Option X) → r ≡ in_slot f (slot m.heap.table i) → is_some r ≡ true
  found_in f r is = ap is_some (is ∙ ap (in_slot f) (holds m i e).is)

  pub serial_found : (x : ℕ) → in_slot (λ o. o.serial) (slot m.heap.table i) ≡ Some x → x ≡ serial_at (stored m) i
  serial_found x f = let h = holds m i e in let u : Some x ≡ Some h.occupant.serial = sym f ∙ ap (in_slot (λ o. o.serial)) h.is in same_Some x h.occupant.serial u ∙ sym (serial_is h)

  pub text_found : {X : Type 0} (r : Option X) (get : X → List ℕ) → MatchOption r (mark_at m.heap i ≡ Free) (λ t. in_slot (λ o. o.text) (slot m.heap.table i) ≡ Some (get t)) → is_some r ≡ true
  text_found r get is = grind (arith, placed_mark)

  -- A field of what a slot's vertex shows.
  pub field_shown : {X : Type 0} (f : Occupant → X) (g : _ → X) (x : X) → Whole m → ((o : Occupant) → g (vertex_of (as_kept (as_spot o (edges m.heap i)))) ≡ f o) → in_slot f (slot m.heap.table i) ≡ Some x
      → option_map g (finmap.get (held (stored m) 0).vertices (serial_at (stored m) i)) ≡ Some x
  field_shown f g x w same is =
      let h = holds m i e in
      rw (serial_is h, vertex_found (stored m) 0 i (as_kept (owner h)) (once_stored m w) h.shows) (ap (λ (y : _). Some y) (same h.occupant) ∙ sym (ap (in_slot f) h.is) ∙ is)

-- A label by its four rights.
pub label_is : (v : Stored) (next x y : ℕ) (l : Letters) → ((r : Right) → finset.contains (triples v) (record { from = x; right = r; to = y }) ≡ has l r) → label (held v next) x y ≡ l
unfolding label
label_is v next x y l e = λ i. record { read = e right.read i; write = e right.write i; take = e right.take i; grant = e right.grant i }

pub same_truth : (a b : Bool) → (a ≡ true → b ≡ true) → (b ≡ true → a ≡ true) → a ≡ b
same_truth a b f g = grind arith

module _ (v : Stored) (next i : ℕ) (k : Kept) (once : Once v) (is : kept v i ≡ Some k) where
  pub owned_here : (t : Triple) (h : finset.contains (triples v) t ≡ true) → t.from ≡ k.serial → (e : Edge) × Contains k.edges e × (t.to ≡ e.serial) × (has e.rights t.right ≡ true)
  owned_here t h from =
      let o = triple_owned v t h in
      let there = held_at v o.at in
      let here = once o.at i o.kept k in
      (o.edge, grind arith, o.to, o.right)

  pub label_edge : (e : Edge) → Distinct (map (λ (d : Edge). d.serial) k.edges) → Contains k.edges e → label (held v next) k.serial e.serial ≡ e.rights
  label_edge e serials c = label_is v next k.serial e.serial e.rights (λ r.
      let o = owned_here (record { from = k.serial; right = r; to = e.serial }) in
      let same = λ (d : Edge). same_by (λ (x : Edge). x.serial) k.edges d e serials in
      let back = says_triple v i k e r is c in
      grind arith)

  pub label_none : (y : ℕ) → HasNone k.edges y → label (held v next) k.serial y ≡ none
  label_none y n = label_is v next k.serial y none (λ r. let o = owned_here (record { from = k.serial; right = r; to = y }) in let f = has_none r in grind (arith, n))

-- A vertex with the same edges in two stores has the same labels.
module _ (v w : Stored) (next i : ℕ) (k : Kept) (once_v : Once v) (once_w : Once w) (was : kept v i ≡ Some k) (is : kept w i ≡ Some k) (y : ℕ) where
  over : (u t : Stored) → Once u → kept u i ≡ Some k → kept t i ≡ Some k → (r : Right) → finset.contains (triples u) (record { from = k.serial; right = r; to = y }) ≡ true → finset.contains (triples t) (record { from = k.serial; right = r; to = y }) ≡ true
  over u t once at there r h =
      let o = owned_here u 0 i k once at (record { from = k.serial; right = r; to = y }) h refl in
      subst (λ (z : ℕ). finset.contains (triples t) (record { from = k.serial; right = r; to = z }) ≡ true) (sym o.2) (says_triple t i k o.0 r there o.1 o.3)

  pub label_same : label (held v next) k.serial y ≡ label (held w next) k.serial y
  unfolding label
  label_same = λ j. rights_where (λ r. same_truth _ _ (over v w once_v was is r) (over w v once_w is was r) j)

pub found_contains : (es : List Edge) (y : ℕ) (f : Found es y) → Contains es f.edge
found_contains es y f = subst (λ (l : List Edge). Contains l f.edge) (sym f.is) (contains_middle f.before f.after f.edge)

-- The edges of a slot, in the words of the graph of what is held.
module _ {m : Machine} {id : ℕ} (w : Whole m) (h : Holds m id) where
  pub edge_label : IsHeap m.heap → (e : Edge) → Contains (edges m.heap id) e → (next : ℕ) → label (held (stored m) next) (serial_at (stored m) id) e.serial ≡ e.rights
  edge_label ok e c next = rw (serial_is h) (label_edge (stored m) next id (as_kept (owner h)) (once_stored m w) h.shows e (ok.cells.serial_once id) c)

  pub edge_owned : (y : ℕ) → IsEdgeIn (stored m) (serial_at (stored m) id) y → (e : Edge) × Contains (edges m.heap id) e × (e.serial ≡ y)
  edge_owned y t =
      let o = owned_here (stored m) 0 id (as_kept (owner h)) (once_stored m w) h.shows (record { from = serial_at (stored m) id; right = t.0; to = y }) t.1 (serial_is h) in
      (o.0, o.1, sym o.2)

  pub edge_visible : IsHeap m.heap → (e : Edge) → Contains (edges m.heap id) e → IsEdgeIn (stored m) (serial_at (stored m) id) e.serial
  edge_visible ok e c = rw (serial_is h) (edge_shown (stored m) id (as_kept (owner h)) e h.shows c (ok.cells.labelled id e c))

  pub edge_leads : (e : Edge) → Contains (edges m.heap id) e → place (stored m) e.target ≡ Some e.serial
  edge_leads e c = let l = (closed_so m w).edges id (as_kept (owner h)) e h.shows c in ap kept_serial l.1 ∙ ap (λ (x : ℕ). Some x) l.2

-- An edge that is looked up, as the label of what is held.
pub edge_looked_up : (m : Machine) (id y : ℕ) (r : Option (ℕ × Letters)) → IsHeap m.heap → Whole m → is_some (place (stored m) id) ≡ true
    → MatchOption r (HasNone (edges m.heap id) y) (λ t. (f : Found (edges m.heap id) y) × (t.0 ≡ f.edge.target) × (t.1 ≡ f.edge.rights))
    → MatchOption r ((next : ℕ) → label (held (stored m) next) (serial_at (stored m) id) y ≡ none)
    (λ t. (place (stored m) t.0 ≡ Some y) × (is_none t.1 ≡ false) × ((next : ℕ) → label (held (stored m) next) (serial_at (stored m) id) y ≡ t.1))
edge_looked_up m id y None ok w at n = λ next. let h = holds m id at in rw (serial_is h) (label_none (stored m) next id (as_kept (owner h)) (once_stored m w) h.shows y n)
edge_looked_up m id y (Some t) ok w at (f, to, rights) =
    let mine = found_contains (edges m.heap id) y f in
    rw (to, rights, ← f.here) (edge_leads w (holds m id at) f.edge mine, ok.cells.labelled id f.edge mine, edge_label w (holds m id at) ok f.edge mine)

-- An edge that is visible is found, with the rights of its label.
pub found_edge : (m : Machine) (id y : ℕ) (rights : Letters) → IsHeap m.heap → Whole m → is_some (place (stored m) id) ≡ true → IsEdgeIn (stored m) (serial_at (stored m) id) y
    → includes (label (held (stored m) 0) (serial_at (stored m) id) y) rights ≡ true → (f : Found (edges m.heap id) y) × (includes f.edge.rights rights ≡ true)
found_edge m id y rights ok w at t i =
    let o = edge_owned w (holds m id at) y t in
    let s = split_at (edges m.heap id) o.0 o.1 in
    (record { before = s.before; edge = o.0; after = s.after; is = s.is; here = o.2 }, rw (← o.2, edge_label w (holds m id at) ok o.0 o.1 0) at i)

-- Between cycles nothing is parked.
pub idle_unparked : (v : Stored) → readings.phase v ≡ phases.Idle → (x : ℕ) → IsParkedIn v x → ⊥
idle_unparked v idle x (i, (s, at, dark), named) = grind arith

pub idle_none_parked : (v : Stored) → readings.phase v ≡ phases.Idle → readings.parked_count v ≡ 0
idle_none_parked v idle = total_none (λ i. parked_one v.stage i (spot_at v i)) (readings.slot_count v) (λ i. grind arith)

-- The seats, and the principals by their serials.
pub seat_shown : (m : Machine) (seat : ℕ) → pending_of (stored m) seat ≡ root_serial (get_or m.roots.targets.items seat None)
seat_shown m seat = get_or-map (λ o. root_serial o) m.roots.targets.items seat None

pub idle_seat : (m : Machine) (seat : ℕ) → pending_of (stored m) seat ≡ None → get_or m.roots.targets.items seat None ≡ None
idle_seat m seat e = let shown_body = seat_shown m seat in grind arith

pub principal_found : (m : Machine) (k : ℕ) (d : Root) → Whole m → k < length m.roots.principals → (x : ℕ) → (get_or m.roots.principals k d).serial ≡ x
    → Contains (principals (stored m)) x × (place (stored m) (get_or m.roots.principals k d).slot ≡ Some x)
principal_found m k d w b x e =
    let listed = at_index m.roots.principals k d b in
    rw (← e) (contains_map (λ (q : Root). q.serial) m.roots.principals (get_or m.roots.principals k d) listed, named_so m w (get_or m.roots.principals k d) (inr (inl listed)))

pub no_principal : (m : Machine) (x : ℕ) (d : Root) → ((k : ℕ) → k < length m.roots.principals → (get_or m.roots.principals k d).serial ≢ x) → Contains (principals (stored m)) x → ⊥
no_principal m x d none h =
    let r = contains_mapped (λ (q : Root). q.serial) m.roots.principals x h in
    let p = placed m.roots.principals r.0 d r.1 in
    none p.0 p.1 (ap (λ (q : Root). q.serial) p.2 ∙ r.2)

-- What is looked up at a place, in the words of its serial.
pub read_edge : (v : Stored) (at serial to : ℕ) (r : Option (ℕ × Letters)) → place v at ≡ Some serial
    → MatchOption r ((next : ℕ) → label (held v next) (serial_at v at) to ≡ none) (λ t. (place v t.0 ≡ Some to) × (is_none t.1 ≡ false) × ((next : ℕ) → label (held v next) (serial_at v at) to ≡ t.1))
    → MatchOption r (label (held v 0) serial to ≡ none) (λ t. (place v t.0 ≡ Some to) × (t.1 ≡ label (held v 0) serial to))
read_edge v at serial to r e h = let same = ap (λ (o : Option ℕ). unwrap_or o 0) e in grind arith

-- A serial that no slot has is neither held nor parked.
pub unnamed : (m : Machine) (x : ℕ) → ((k : ℕ) → k < length m.heap.table.slots → in_slot (λ o. o.serial) (slot m.heap.table k) ≢ Some x) → (IsHeldIn (stored m) x → ⊥) × (IsParkedIn (stored m) x → ⊥)
unnamed m x none = (
  λ h. (let k = held_kept (stored m) x h in named k.0 (kept_name (stored m).stage k.0 (values.spot (body m) k.0) k.1 k.2 ∙ ap (λ (y : ℕ). Some y) k.3)),
  λ p. named p.0 p.2,
) where
  named : (j : ℕ) → slot_serial (body m) j ≡ Some x → ⊥
  named j e = let z = zip_at m.heap.table.slots m.heap.lists j in let within = at_within m.heap.table.slots j in grind (arith, none j)

-- Paths of the plain graph are paths of a store's slots, and back.
pub edge_in : (v : Stored) (next x y : ℕ) → IsEdge (held v next) x y → IsEdgeIn v x y
edge_in v next x y e = let s = some_right (label (held v next) x y) e in (s.0, contains-label (held v next) (record { from = x; right = s.0; to = y }) ∙ s.1)

pub in_edge : (v : Stored) (next x y : ℕ) → IsEdgeIn v x y → IsEdge (held v next) x y
in_edge v next x y e = right_some (label (held v next) x y) e.0 (sym (contains-label (held v next) (record { from = x; right = e.0; to = y })) ∙ e.1)

module _ (v : Stored) (s : IsStore v) where
  once : Once v
  once = once_so v s.once

  abbrev LiveAt : ℕ → Type 0
  LiveAt x = IsLiveIn (shown_body v) v.stage x

  pub root_live : (x : ℕ) → IsRootIn v x → LiveAt x
  root_live x r = let q = root_in v x r in let k = place_kept v q.0.slot x (s.named q.0 q.1 ∙ ap (λ (y : ℕ). Some y) q.2) in (q.0.slot, k.0, at_root q.0.slot (listed_root v.roots q.0 q.1), k.1, k.2)

  leads_live : (next x : ℕ) (later : List ℕ) (y : ℕ) → LiveAt x → Leads (held v next) x later y → LiveAt y
  leads_live next x [] y l e = subst LiveAt e l
  leads_live next x (z ∷ zs) y l p =
      let e = shown_edge v x z (edge_in v next x z p.0) in
      let here : l.0 ≡ e.0 = once l.0 e.0 l.1 e.1 l.3 e.3 (l.4 ∙ sym e.5) in
      let there = s.closed.edges e.0 e.1 e.2 e.3 e.4 in
      leads_live next z zs y (e.2.target, there.0, along e.0 e.1 e.2 (subst (IsLive (shown_body v) v.stage) here l.2) e.3 e.4, there.1, there.2 ∙ e.6) p.1

  pub live_slots : (next x : ℕ) → Live (held v next) (IsRootIn v) x → LiveAt x
  live_slots next x l = leads_live next l.0 l.2.0 x (root_live l.0 l.1) l.2.1.1

  slot_live : (next i : ℕ) (k : Kept) → IsLive (shown_body v) v.stage i → kept v i ≡ Some k → Live (held v next) (IsRootIn v) k.serial
  slot_live next i k (at_root _ r) h =
      let q = root_listed v.roots i r in
      let same : q.0.serial ≡ k.serial = same_Some q.0.serial k.serial (sym (s.named q.0 q.1) ∙ ap (place v) q.2 ∙ ap kept_serial h) in
      let root : IsRootIn v k.serial = subst (IsRootIn v) same (in_root v q.0 q.1) in
      (k.serial, root, ([], (s.roots_held k.serial root, refl)))
  slot_live next _ k (along i t e r is c) h =
      let l = slot_live next i t r is in
      let there = s.closed.edges i t e is c in
      let to : e.serial ≡ k.serial = sym there.2 ∙ ap (λ (z : Kept). z.serial) (same_Some there.0 k (sym there.1 ∙ h)) in
      let mine : Contains (spot_edges (spot_at v i)) e = rw (kept_edges v.stage i (spot_at v i) t is) c in
      let step : IsEdge (held v next) t.serial k.serial = in_edge v next t.serial k.serial (subst (IsEdgeIn v t.serial) to (edge_shown v i t e is c (s.labelled i e mine))) in
      (l.0, l.1, (l.2.0 ++ k.serial ∷ [], (l.2.1.0, leads_on (held v next) l.2.0 l.0 t.serial k.serial l.2.1.1 step)))

  pub slots_live : (next x : ℕ) → LiveAt x → Live (held v next) (IsRootIn v) x
  slots_live next x l = subst (Live (held v next) (IsRootIn v)) l.4 (slot_live next l.0 l.1 l.2 l.3)
