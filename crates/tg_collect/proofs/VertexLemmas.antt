-- A vertex comes into a free slot, alone or with an edge to it.
use Rattle.std.proofs.Common.{◌≡◌, ◌≢◌, ℕ, ◌<◌, ◌≤◌, List, [], length, Option, Some, None, Ok, inl, inr, true, sym, ◌∙◌, subst, ap, refl, arith, set, get_or-set_other}
use Rattle.tg_collect.proofs.Common.{Table, IsAdded, kept_name, is_some, unwrap_or, same_Some, SEATS, Letters, Kind, Contains, Occupant, slot, Free, mark_at, IsHeap, edges, HasNone, Spot, as_kept, slot_serial, spot_serial, seen, keeps, new_colour, new_keeps, put, Places, places_keeps, left_places, Invariant, comes, edge, Machine, lists_of, with_target, body, progress_of, Whole, Puts, LinksTo, Stored, stored, kept, kept_from, spot_at, held, place, kept_serial, serial_at, pending_of, IsHeldIn, IsParkedIn, VertexStored}
use Rattle.std.proofs.lemmas.Bool.{cases_Bool}
use Rattle.std.specs.FinMap as finmap
use Rattle.std.specs.FinSet as finset
use Rattle.tg_marking.specs.Promise.Values as values
use Rattle.tg_collect.specs.Promise.Held as graph
use Rattle.tg_collect.proofs.SlotLemmas.{as_spot, at_free, put_slot, zip_size, free_so}
use Rattle.tg_collect.proofs.ShownLemmas.{held_at, held_set, from_size, kept_held, place_kept}
use Rattle.tg_collect.proofs.StoreLemmas.{once_stored, holds, placed_mark, kept_name, edge_leads, edge_owned, owner_place}
use Rattle.tg_collect.proofs.SeatLemmas.{same_lists}
use Rattle.tg_collect.proofs.CallLemmas.{occupant_serial, Linked, added}
use Rattle.tg_collect.proofs.EdgeLemmas.{Replaced, replaced}

-- A serial that is neither held nor parked is in no slot.
no_name : (m : Machine) (serial : ℕ) → Whole m → (IsHeldIn (stored m) serial → ⊥) → (IsParkedIn (stored m) serial → ⊥) → (j : ℕ) → slot_serial (body m) j ≢ Some serial
no_name m serial w unheld unparked j e = by (values.spot (body m) j) refl e where
  by : (o : Option Spot) → values.spot (body m) j ≡ o → spot_serial o ≡ Some serial → ⊥
  by None is e = cc
  by (Some s) is e = elim (cases_Bool (keeps (stored m).stage j s.colour)) [
    | inl k ↦ unheld (subst (IsHeldIn (stored m)) (same_Some s.serial serial e) (kept_held (stored m) j (as_kept s) (once_stored m w) (ap (seen (stored m).stage j) is ∙ rw k refl)))
    | inr k ↦ unparked (j, (s, is, k), ap spot_serial is ∙ e)
  ]

-- What it does to a store: the vertex is held, and no other slot changes.
pub record Came (m n : Machine) (i serial : ℕ) (kind : Kind) (text : List ℕ) : Type 0 where
  pub whole : Whole n
  pub within : i < length (stored m).slots
  pub free : spot_at (stored m) i ≡ None
  pub here : place (stored n) i ≡ Some serial
  pub other : (j : ℕ) → j ≢ i → spot_at (stored n) j ≡ spot_at (stored m) j
  pub graph : (next : ℕ) → held (stored n) next ≡ record (held (stored m) next) { vertices = finmap.insert (held (stored m) next).vertices serial (record { kind = kind; text = text }) }
  pub left : (stored n).left ≤ (stored m).left
  pub is : stored n ≡ record (stored m) { slots = set (stored m).slots i (Some (record { serial = serial; kind = kind; text = text; edges = []; colour = new_colour (stored m).stage i })); left = (stored n).left }

module _ (m : Machine) (i serial : ℕ) (kind : Kind) (text rest : List ℕ) (ok : IsHeap m.heap) (w : Whole m) (free : mark_at m.heap i ≡ Free) (within : i < length m.heap.table.slots)
    (unheld : IsHeldIn (stored m) serial → ⊥) (unparked : IsParkedIn (stored m) serial → ⊥) where
  abbrev occupant : Occupant
  occupant = record { serial = serial; kind = kind; colour = new_colour (stored m).stage i; text = text }

  abbrev n : Machine
  n = record m { heap = record m.heap { table = record m.heap.table { slots = set m.heap.table.slots i (Some (record { serial = serial; kind = kind; colour = new_colour (stored m).stage i; text = text })); free = rest } } }

  abbrev vertex : Spot
  vertex = record { serial = serial; kind = kind; text = text; edges = []; colour = new_colour (stored m).stage i }

  shows : body n ≡ put (body m) i (Some (as_spot occupant []))
  shows = put_slot m.heap (lists_of m.roots) i (Some occupant) rest ∙ ap (λ es. put (body m) i (Some (as_spot occupant es))) (ok.free_bare i free)

  empty : spot_at (stored m) i ≡ None
  empty = at_free m.heap (lists_of m.roots) i free

  inside : i < length (stored m).slots
  inside = let z = zip_size m.heap.table.slots m.heap.lists in omega (arith, within, z)

  step : Places (body m) (progress_of m) i serial kind text (body n)
  step = record { free = empty; inside = inside; new = no_name m serial w unheld unparked; is = shows }

  kept_now : Invariant (body n) (progress_of m) × (values.kept_in (body n) (stored m).stage i ≡ Some (as_kept vertex))
  kept_now = places_keeps (body m) (body n) (progress_of m) i serial kind text step w.kept

  same : progress_of n ≡ progress_of m
  same = (same_lists m.heap n.heap.table m.progress).0

  came_put : Replaced m n i (as_spot occupant [])
  came_put = replaced w n.heap m.progress i (as_spot occupant []) shows inside
      (λ r. absurd (let k = w.kept.closed.roots i r in let none : values.kept_in (body m) (stored m).stage i ≡ None = ap (seen (stored m).stage i) empty in let held = k.1 in cc))
      refl refl (rw same kept_now.0) ((same_lists m.heap n.heap.table m.progress).1 w.cursor) (ap values.shown same) (rw same (left_places (body m) (body n) (progress_of m) i serial m.heap.cell_count kind text step))

  is : stored n ≡ record (stored m) { slots = set (stored m).slots i (Some vertex); left = (stored n).left }
  is = came_put.is

  came_so : Came m n i serial kind text
  came_so = record {
    whole = came_put.whole;
    within = inside;
    free = empty;
    here = ap kept_serial (ap (λ (p : values.Progress). values.kept_in (body n) (values.shown p) i) same ∙ kept_now.1);
    other = λ j o. ap (λ (v : Stored). spot_at v j) is ∙ get_or-set_other (stored m).slots i j _ None o;
    graph = λ next. ap (λ (v : Stored). held v next) is
        ∙ ap (λ os. graph.held os next) (held_set (stored m).stage i (stored m).slots (Some vertex) ∙ ap (set (kept_from (stored m).stage 0 (stored m).slots) i) (rw (new_keeps (stored m).stage i) refl))
        ∙ comes (kept_from (stored m).stage 0 (stored m).slots) i next (as_kept vertex) (let z = from_size (stored m).stage 0 (stored m).slots in let y = inside in omega (arith, z, y))
        (λ j k o e s. no_name m serial w unheld unparked j (kept_name (stored m).stage j (spot_at (stored m) j) k (sym (held_at (stored m) j) ∙ e) ∙ ap (λ (y : ℕ). Some y) s))
        (inl (held_at (stored m) i ∙ ap (seen (stored m).stage i) empty, refl));
    left = came_put.left;
    is = is;
  }

pub came : (m n : Machine) (i serial : ℕ) (kind : Kind) (text : List ℕ) → IsHeap m.heap → Whole m → (IsHeldIn (stored m) serial → ⊥) → (IsParkedIn (stored m) serial → ⊥) → Puts m serial kind text (Ok i) n → Came m n i serial kind text
came m n i serial kind text ok w unheld unparked (rest, listed, is) =
    let f = ok.table.listed_free i (subst (λ (l : List ℕ). Contains l i) (sym listed) (inl refl)) in
    subst (λ (x : Machine). Came m x i serial kind text) (sym is) (came_so m i serial kind text rest ok w f.1 f.0 unheld unparked)

-- The whole call that adds a vertex with an edge to it.
module _ (m n : Machine) (id i serial : ℕ) (kind : Kind) (text : List ℕ) (ok : IsHeap m.heap) (w : Whole m) (source : is_some (place (stored m) id) ≡ true)
    (unheld : IsHeldIn (stored m) serial → ⊥) (unparked : IsParkedIn (stored m) serial → ⊥) (put : Puts m serial kind text (Ok i) n) where
  c : Came m n i serial kind text
  c = came m n i serial kind text ok w unheld unparked put

  apart : id ≢ i
  apart e = let k = holds m id source in let none : kept (stored m) id ≡ None = ap (kept (stored m)) e ∙ ap (seen (stored m).stage i) c.free in let is = k.shows in cc

  place_same : place (stored n) id ≡ place (stored m) id
  place_same = (λ z. kept_serial (seen (ap (λ (v : Stored). v.stage) c.is z) id (c.other id apart z)))

  -- What the edge to the new vertex requires.
  pub still_owner : mark_at n.heap id ≢ Free
  still_owner = placed_mark n id (ap is_some place_same ∙ source)

  bare : HasNone (edges n.heap id) serial
  bare e owned is =
      let p = edge_leads w (holds m id source) e (subst (λ (x : Machine). Contains (edges x.heap id) e) put.2 owned) in
      let k = place_kept (stored m) e.target e.serial p in
      unheld (subst (IsHeldIn (stored m)) (k.2 ∙ is) (kept_held (stored m) e.target k.0 (once_stored m w) k.1))

  serial_here : (o : Occupant) → slot n.heap.table i ≡ Some o → o.serial ≡ serial
  serial_here o is = let s = occupant_serial (holds n i (ap is_some c.here)) o is in let k = c.here in grind arith

  pub still_none : (o : Occupant) → slot n.heap.table i ≡ Some o → HasNone (edges n.heap id) o.serial
  still_none o is = rw (serial_here o is) bare

  pub vertex_called : (k : Machine) (seat : ℕ) (rights : Letters) → IsHeap n.heap → IsHeap k.heap → pending_of (stored m) seat ≡ None → seat < SEATS → LinksTo n seat id (record { serial = serial; slot = i }) rights k
      → Whole k × VertexStored (stored m) (stored k) seat (serial_at (stored m) id) serial kind text rights
  vertex_called k seat rights ok1 ok' idle l (o, is, new, roots, shape) = (
    e.whole,
    record {
      graph = λ next. e.edge.graph next ∙ (λ z. record (c.graph next z) { triples = finset.union (c.graph next z).triples (edge (unwrap_or (place_same z) 0) rights serial) });
      new = i;
      within = c.within;
      free = c.free;
      free_slots =
          let a = free_so m.heap (lists_of m.roots) ok in
          let b = free_so k.heap (lists_of k.roots) ok' in
          let f = ap length put.1 in
          let g = ap (λ (t : Table). length t.free) e.table in
          let h = ap (λ (x : Machine). length x.heap.table.free) put.2 in
          omega (arith, a, b, f, g, h);
      free_cells = ap (λ (v : Stored). v.free_cells) (sym c.is) ∙ e.edge.new (λ q. let x = edge_owned c.whole (holds n id (ap is_some place_same ∙ source)) serial q in bare x.0 x.1 x.2);
      left = let a = c.left in let b = e.edge.left in omega (arith, a, b);
      slot = e.edge.slot;
      place = ap (place (stored m)) e.at ∙ owner_place (holds m id source);
      owner = e.edge.owner;
      at = sym (c.other e.edge.slot (λ loop. apart (sym e.at ∙ loop))) ∙ e.edge.at;
      edges = e.edge.edges;
      leads = e.edge.leads;
      is = e.edge.is ∙ (λ z. record (c.is z) {
        slots = set (c.is z).slots e.edge.slot (Some (record e.edge.owner { edges = e.edge.edges }));
        roots = with_target (c.is z).roots seat (Some (e.to z));
        free_cells = (stored k).free_cells;
        left = (stored k).left;
      });
    },
  ) where
    e : Linked n k seat id (record { serial = serial; slot = i }) rights
    e = added n k seat id (record { serial = serial; slot = i }) rights ok1 c.whole (ap is_some place_same ∙ source) c.here (λ loop. apart (sym loop)) (ap (λ (v : Stored). pending_of v seat) c.is ∙ idle) l roots ok'
        (subst (λ (x : ℕ). IsAdded n.heap k.heap id i x rights) (serial_here o is) new) shape
