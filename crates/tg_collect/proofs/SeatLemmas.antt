-- A seat's target comes or goes, and slots are shaded.
use Rattle.std.proofs.Common.{◌≡◌, ℕ, zero, suc, ◌≤◌, List, [], ◌∷◌, length, Option, Some, None, ◌⊎◌, inl, inr, sym, ◌∙◌, subst, ap, refl, get_or, set, length-set, arith, map, ◌<◌}
use Rattle.tg_collect.proofs.Common.{Contains, HeapGraph, shaded, Spot, Body, HasRoot, Kept, slot_serial, shade, left, Root, Roots, Progress, Machine, RootLists, IsListed, with_target, lists_of, slot_of, bare, body, progress_in, progress_of, CursorFits, Whole, stored, shown_body, root_serial, Kind, new_colour, Stored, Letters, contains_map, Edge, put_each, at_within, EdgeStored, VertexStored, RightsRemoved, TextReplaced, map-set, shade_name, shade_kept, held_keeps, shades_keeps, left_shade, shade_each, zip, AreRoots, held, Table, shade_size, ShadesSeat, Shaded, TargetShaded, SlotChanged, Acted, LedTo, agents, pending, principals}
use Rattle.tg_marking.specs.Promise.Values as values
use Rattle.tg_marking.specs.Promise.Steps as steps
use Rattle.tg_marking.specs.Promise.Runs as marking
use Rattle.tg_collect.specs.Promise.Readings as readings
use Rattle.tg_collect.proofs.SlotLemmas.{shaded_so, seat_slot, seat_contains, listed_root}
use Rattle.tg_collect.proofs.StoreLemmas.{named_so, seat_shown}
use Rattle.tg_collect.proofs.ShownLemmas.{held_same, place_kept}

-- The slots of a seat's new target.
pub bare_seat : (rs : RootLists) (seat : ℕ) (x : Option Root) → bare (with_target rs seat x) ≡ steps.with_seat_target (bare rs) seat (slot_of x)
bare_seat rs seat x = λ n. record { targets = map-set (λ o. slot_of o) rs.targets seat x n; others = (bare rs).others }

-- Who is in a list after a place was set.
pub set_only : {X : Type 0} (xs : List X) (k : ℕ) (v z : X) → Contains (set xs k v) z → Contains xs z ⊎ (v ≡ z)
set_only [] k v z h = absurd h
set_only (x ∷ xs) zero v z h = grind arith
set_only (x ∷ xs) (suc k) v z h = grind (arith, set_only xs k v z)

pub listed_seat : (rs : RootLists) (seat : ℕ) (x : Option Root) (r : Root) → IsListed (with_target rs seat x) r → IsListed rs r ⊎ (x ≡ Some r)
listed_seat rs seat x r h = let old = set_only rs.targets seat x (Some r) in grind arith

pub roots_move : (rs : RootLists) (b b' : Body) → ((i : ℕ) → HasRoot (bare rs) i → slot_serial b' i ≡ slot_serial b i) → AreRoots rs b → AreRoots rs b'
roots_move rs b b' same a = record { seats = a.seats; few = a.few; agents = a.agents; named = λ r h. same r.slot (listed_root rs r h) ∙ a.named r h }

-- Progress and cursor are read off the lists alone.
pub same_lists : (h : HeapGraph) (t : Table) (p : Progress) → (progress_in (record h { table = t }) p ≡ progress_in h p) × (CursorFits h p → CursorFits (record h { table = t }) p)
same_lists h t p = grind arith

-- What contracts see of a machine with another heap, progress and roots.
pub stored_is : (m : Machine) (g : HeapGraph) (q : Progress) (r : Roots) (rs : RootLists) (slots : List (Option Spot)) → zip g.table.slots g.lists ≡ slots → values.shown (progress_in g q) ≡ values.shown (progress_of m)
    → g.cell_count ≡ m.heap.cell_count → g.key ≡ m.heap.key → lists_of r ≡ rs
    → stored (record { heap = g; progress = q; roots = r }) ≡ record (stored m) { slots = slots; roots = rs; free_cells = g.free_cells; left = (stored (record { heap = g; progress = q; roots = r })).left }
stored_is m g q r rs slots a b c k d = λ n. record { slots = a n; stage = b n; roots = d n; free_cells = g.free_cells; cells = c n; left = (stored (record { heap = g; progress = q; roots = r })).left; key = k n }

-- A seat shades its target and clears it.
module _ (m : Machine) (seat serial i : ℕ) (r : Roots) (w : Whole m) (at : get_or m.roots.targets.items seat None ≡ Some (record { serial = serial; slot = i })) (roots : lists_of r ≡ with_target (lists_of m.roots) seat None) where
  abbrev cleared : Machine
  cleared = record m { heap = record m.heap { table = shaded m.heap.table i }; roots = r }

  listed : IsListed (lists_of m.roots) (record { serial = serial; slot = i })
  listed = inl (seat_contains m.roots.targets.items seat (record { serial = serial; slot = i }) at)

  shows : body cleared ≡ record (shade (body m) i) { roots = steps.with_seat_target (body m).roots seat None }
  shows = ap (λ (b : Body). record b { roots = bare (lists_of r) }) (shaded_so m.heap (lists_of m.roots) i)
      ∙ ap (λ (q : values.Roots). record (shade (body m) i) { roots = q }) (ap bare roots ∙ bare_seat (lists_of m.roots) seat None)

  same : progress_of cleared ≡ progress_of m
  same = (same_lists m.heap (shaded m.heap.table i) m.progress).0

  seat_whole : Whole cleared
  seat_whole = record {
    kept = rw same (shades_keeps (body m) (body cleared) (progress_of m) seat i (record { was = seat_slot m.roots.targets.items seat _ at; is = shows }) w.kept);
    cursor = (same_lists m.heap (shaded m.heap.table i) m.progress).1 w.cursor;
    roots = rw roots (record {
      seats = length-set m.roots.targets.items seat None ∙ w.roots.seats;
      few = w.roots.few;
      agents = w.roots.agents;
      named = λ q h. ap (λ (b : Body). slot_serial b q.slot) shows ∙ shade_name (body m) i q.slot ∙ w.roots.named q (elim (listed_seat (lists_of m.roots) seat None q h) [ inl old ↦ old | inr never ↦ absurd (cc) ]);
    });
  }

  -- No one sees in which order grey slots wait.
  ungreyed : (b : Body) → (shade b i).slots ≡ (shade (record b { grey = [] }) i).slots
  ungreyed b = grind arith

  is : stored cleared ≡ record (stored m) { slots = (shade (shown_body (stored m)) i).slots; roots = with_target (lists_of m.roots) seat None; left = (stored cleared).left }
  is = stored_is m cleared.heap m.progress r (with_target (lists_of m.roots) seat None) (shade (shown_body (stored m)) i).slots (ap (λ (b : Body). b.slots) shows ∙ ungreyed (body m)) (ap values.shown same) refl refl roots

  seat_shaded : TargetShaded (stored m) (stored cleared) seat serial
  seat_shaded = record {
    was = seat_shown m seat ∙ ap root_serial at;
    slot = i;
    root = listed_root (lists_of m.roots) (record { serial = serial; slot = i }) listed;
    place = named_so m w (record { serial = serial; slot = i }) listed;
    left = rw same (subst (λ (b : Body). left m.heap.cell_count b (progress_of m) ≤ (stored m).left) (sym shows) (left_shade (body m) (progress_of m) i m.heap.cell_count));
    graph = λ next. ap (λ (v : Stored). held v next) is ∙ held_same (stored m) (record (stored m) { slots = (shade (shown_body (stored m)) i).slots }) (shade_size (shown_body (stored m)) i)
        (shade_kept (shown_body (stored m)) (stored m).stage i (λ s e c. ap (values.keeps (stored m).stage i) (sym c) ∙ held_keeps (shown_body (stored m)) (stored m).stage i root_kept.0 root_kept.1 s e)) next;
    is = is;
  } where
    root_kept : (k : Kept) × (readings.kept (stored m) i ≡ Some k) × (k.serial ≡ serial)
    root_kept = place_kept (stored m) i serial (named_so m w (record { serial = serial; slot = i }) listed)

pub shade_called : (m k : Machine) (seat : ℕ) (answer : Option ℕ) → Whole m → ShadesSeat m seat answer k → Whole k × Shaded (stored m) (stored k) seat answer
shade_called m k seat None w s = (subst Whole (sym s.1) w, (seat_shown m seat ∙ ap root_serial s.0, ap stored s.1))
shade_called m k seat (Some serial) w (i, at, roots, is) = subst (λ (x : Machine). Whole x × TargetShaded (stored m) (stored x) seat serial) (sym is) (seat_whole m seat serial i k.roots w at roots, seat_shaded m seat serial i k.roots w at roots)

-- Each session call is a session step of a run.
-- The targets, or the agents, after a seat's was set.
pub serial_set : (rs : List (Option Root)) (seat : ℕ) (t : Option Root) (x : ℕ) → Contains (map (λ o. root_serial o) (set rs seat t)) (Some x) → Contains (map (λ o. root_serial o) rs) (Some x) ⊎ (root_serial t ≡ Some x)
serial_set rs seat t x h = set_only (map (λ o. root_serial o) rs) seat (root_serial t) (Some x) (subst (λ l. Contains l (Some x)) (map-set (λ o. root_serial o) rs seat t) h)

-- A step that leaves all but the roots.
pub acted_roots : (v w : Stored) (rs : RootLists) (target : Option ℕ) → w ≡ record v { roots = rs } → ((x : ℕ) → Contains (map (λ (r : Root). r.serial) rs.principals) x → Contains (principals v) x)
    → ((x : ℕ) → Contains (map (λ o. root_serial o) rs.targets) (Some x) → Contains (pending v) (Some x) ⊎ (target ≡ Some x))
    → ((x : ℕ) → Contains (map (λ o. root_serial o) rs.agents) (Some x) → Contains (agents v) (Some x) ⊎ (target ≡ Some x)) → Acted v w None target
acted_roots v w rs target is old seats assumed = subst (λ (z : Stored). Acted v z None target) (sym is)
    (record { stage = refl; principals = λ x h. inl (old x h); agents = assumed; pending = seats; slots = refl; changes = λ i. marking.same (readings.spot_at v i); cells = refl; key = refl; left = omega arith })

pub acted_same : (v w : Stored) → w ≡ v → Acted v w None None
acted_same v w is = acted_roots v w v.roots None is (λ x h. h) (λ x h. inl h) (λ x h. inl h)

-- A step that leaves the phase, the principals, the agents and the number of cells.
module _ (v : Stored) (new target : Option ℕ) where
  abbrev EachChanges : List (Option Spot) → Type 0
  EachChanges os = (i : ℕ) → SlotChanged v new target i (readings.spot_at v i) (get_or os i None)

  acted_by : (os : List (Option Spot)) (targets : List (Option Root)) (free left : ℕ) → ((x : ℕ) → Contains (map (λ o. root_serial o) targets) (Some x) → Contains (pending v) (Some x) ⊎ (target ≡ Some x)) → length os ≡ length v.slots
      → EachChanges os → left ≤ v.left → Acted v (record v { slots = os; roots = record v.roots { targets = targets }; free_cells = free; left = left }) new target
  acted_by os targets free left seats size each lower = record { stage = refl; principals = λ x h. inl h; agents = λ x h. inl h; pending = seats; slots = size; changes = each; cells = refl; key = refl; left = lower }

  -- One slot more changes.
  one_changes : (os : List (Option Spot)) (i : ℕ) (o : Option Spot) → i < length os → SlotChanged v new target i (readings.spot_at v i) o → EachChanges os → EachChanges (set os i o)
  one_changes os i o within here each = put_each (λ j x. SlotChanged v new target j (readings.spot_at v j) x) (record (shown_body v) { slots = os }) i o within here (λ j n. each j)

  -- A held slot gets other edges, or another text.
  acted_regards : (os : List (Option Spot)) (i : ℕ) (s : Spot) (es : List Edge) (text : List ℕ) (targets : List (Option Root)) (free left : ℕ) → ((x : ℕ) → Contains (map (λ o. root_serial o) targets) (Some x) → Contains (pending v) (Some x) ⊎ (target ≡ Some x))
      → length os ≡ length v.slots → EachChanges os → readings.spot_at v i ≡ Some s → ((e : Edge) → Contains es e → LedTo s.edges e ⊎ (target ≡ Some e.serial)) → left ≤ v.left
      → Acted v (record v { slots = set os i (Some (record s { edges = es; text = text })); roots = record v.roots { targets = targets }; free_cells = free; left = left }) new target
  acted_regards os i s es text targets free left seats size each at leads lower = acted_by (set os i (Some (record s { edges = es; text = text }))) targets free left seats (length-set os i _ ∙ size)
      (one_changes os i (Some (record s { edges = es; text = text })) (let b = at_within v.slots i s at in omega (arith, b, size)) (rw at (marking.regards s es text leads)) each) lower

pub acted_shaded : (v w : Stored) (seat : ℕ) (answer : Option ℕ) → Shaded v w seat answer → Acted v w None None
acted_shaded v w seat None s = acted_same v w s.1
acted_shaded v w seat (Some x) s = rw s.is (acted_by v None None (shade (shown_body v) s.slot).slots (set v.roots.targets seat None) v.free_cells w.left (serial_set v.roots.targets seat None) (shade_size (shown_body v) s.slot)
    (shade_each (λ j o. SlotChanged v None None j (readings.spot_at v j) o) (shown_body v) s.slot (λ t e c. rw e (marking.shaded t c s.root)) (λ j. marking.same (readings.spot_at v j))) s.left)

pub acted_edge : (v w : Stored) (seat x y : ℕ) (rights : Letters) → EdgeStored v w seat x y rights → Acted v w None (Some y)
acted_edge v w seat x y rights s = rw s.is (acted_regards v None (Some y) v.slots s.slot s.owner s.edges s.owner.text (set v.roots.targets seat (Some s.target)) w.free_cells w.left
    (rw (← s.named) (serial_set v.roots.targets seat (Some s.target))) refl (λ i. marking.same (readings.spot_at v i)) s.at (λ e h. let led = s.leads e h in grind arith) s.left)

pub acted_removed : (v w : Stored) (x y : ℕ) (rights : Letters) → RightsRemoved v w x y rights → Acted v w None None
acted_removed v w x y rights s = rw s.is (acted_regards v None None v.slots s.slot s.owner s.edges s.owner.text v.roots.targets w.free_cells w.left
    (λ z h. inl h) refl (λ i. marking.same (readings.spot_at v i)) s.at (λ e h. inl (s.leads e h)) s.left)

pub acted_text : (v w : Stored) (x : ℕ) (text answer : List ℕ) → TextReplaced v w x text answer → Acted v w None None
acted_text v w x text answer s = rw s.is (acted_regards v None None v.slots s.slot s.owner s.owner.edges text v.roots.targets v.free_cells v.left
    (λ z h. inl h) refl (λ i. marking.same (readings.spot_at v i)) s.at (λ e h. inl (contains_map (λ (d : Edge). d.serial) s.owner.edges e h)) (omega arith))

pub acted_vertex : (v w : Stored) (seat x serial : ℕ) (kind : Kind) (text : List ℕ) (rights : Letters) → VertexStored v w seat x serial kind text rights → Acted v w (Some serial) (Some serial)
acted_vertex v w seat x serial kind text rights s =
    let vertex : Spot = record { serial = serial; kind = kind; text = text; edges = []; colour = new_colour v.stage s.new } in
    let came = one_changes v (Some serial) (Some serial) v.slots s.new (Some vertex) s.within (rw s.free (marking.comes vertex refl refl (λ e never. absurd never))) (λ i. marking.same (readings.spot_at v i)) in
    rw s.is (acted_regards v (Some serial) (Some serial) (set v.slots s.new (Some vertex)) s.slot s.owner s.edges s.owner.text (set v.roots.targets seat (Some (record { serial = serial; slot = s.new }))) w.free_cells w.left
    (serial_set v.roots.targets seat (Some (record { serial = serial; slot = s.new }))) (length-set v.slots s.new _) came s.at (λ e h. let led = s.leads e h in grind arith) s.left)
