-- What the steps of a store do, in the words of the graph of what is held.
use Rattle.std.proofs.Common.{◌≡◌, ◌≢◌, ℕ, zero, suc, ◌<◌, ◌≤◌, Option, Some, None, ◌⊎◌, inl, inr, Bool, true, false, sym, ◌∙◌, subst, ap, refl, arith, map}
use Rattle.std.proofs.lemmas.Bool.{cases_eq}
use Rattle.std.specs.Prelude.{◌↔◌}
use Rattle.std.specs.FinMap as finmap
use Rattle.tg_graph.specs.Promise.Protection.{IsPart, Triple}
use Rattle.tg_lists.specs.Promise.Membership.{Contains}
use Rattle.tg_slots.specs.Promise.Table.{Mark, Has}
use Rattle.tg_marking.specs.Promise.Values as values
use Rattle.tg_marking.specs.Promise.Values.{White, Grey, Black, Edge, Spot, Stage, Body, Kept, as_kept, keeps, spot_serial, spot_mark, seen, total, free_one}
use Rattle.tg_marking.specs.Promise.Collected.{IsCalled, SlotTurns, Follows, Stays, Parks}
use Rattle.tg_marking.proofs.SpotLemmas.{held_keeps, new_is, shade_done}
use Rattle.tg_marking.specs.Promise.Steps.{new_colour, shade}
use Rattle.tg_collect.specs.declared.note.Phase.{Phase}
use Rattle.tg_collect.specs.declared.note.Phase.TheVariants as phases
use Rattle.tg_collect.proofs.Common.{Root, RootLists, root_serial, Acted, SlotChanged, Collected, IsStore, IsEdgeIn, IsHeldIn, IsParkedIn, IsRootIn, IsRootAt, Stored, at_within, held, kept, kept_name, keeps_grey, phase, phase_in, shade_name, shown_body, slot_count, spot_at, turns_name}
use Rattle.tg_collect.specs.Promise.Readings.{IsBlackIn, IsGreyIn, mark_in, serial_in_slot}
use Rattle.tg_collect.specs.Promise.InGraph.{ActedInGraph, ActsInGraph, CollectedInGraph, CollectsInGraph, FreesNone, FreesOne, IsCalledIn, OpensInGraph, ShadesInGraph, StartsSweep, StaysOrIsParked, StoresAreInGraph}
use Rattle.tg_collect.proofs.SlotLemmas.{root_listed}
use Rattle.tg_collect.proofs.ShownLemmas.{Once, edge_shown, held_kept, kept_held, place_kept}
use Rattle.tg_collect.proofs.StoreLemmas.{edge_in, idle_unparked, in_root, live_slots, once_so}
use Rattle.tg_collect.proofs.RunLemmas.{acted_parked, acted_phase, collected_parked, collected_part, collected_turns, opened_graph, opened_phase}

-- The phases, and the step into the sweep.
stays_unless : (size : ℕ) (g h : Stage) (ended : Bool) → Follows size g h ended → ((phase_in g ≡ phases.Mark) × (phase_in h ≡ phases.Sweep) → ⊥) → Stays g h
stays_unless size g h ended f not = grind arith

starts_at : (size : ℕ) (g h : Stage) (ended : Bool) → Follows size g h ended → phase_in g ≡ phases.Mark → phase_in h ≡ phases.Sweep → (g ≡ values.Mark) × (h ≡ values.Sweep 0)
starts_at size g h ended f at to = grind arith

starts_or : (p q : Phase) → ((p ≡ phases.Mark) × (q ≡ phases.Sweep)) ⊎ ((p ≡ phases.Mark) × (q ≡ phases.Sweep) → ⊥)
starts_or p q = grind arith

sweeps_at : (g : Stage) → phase_in g ≡ phases.Sweep → (k : ℕ) × (g ≡ values.Sweep k)
sweeps_at g e = grind arith

black_or : (m : Mark) → (m ≡ Has Black) ⊎ (m ≢ Has Black)
black_or m = grind arith

parks_in_sweep : (g : Stage) (i : ℕ) (z : Spot) → keeps g i z.colour ≡ false → phase_in g ≡ phases.Sweep
parks_in_sweep g i z dark = grind arith

-- What a collector step does to one slot.
module _ (b : Body) (g : Stage) (i : ℕ) (o p : Option Spot) (t : SlotTurns (IsCalled b) g i o p) where
  turned_grey : spot_mark p ≡ Has Grey → (spot_mark o ≡ Has Grey) ⊎ IsCalled b i
  turned_grey e = grind arith

  turned_black : spot_mark p ≡ Has Black → (spot_mark o ≡ Has Black) ⊎ (spot_mark o ≡ Has Grey)
  turned_black e = grind arith

  still_black : phase_in g ≢ phases.Sweep → spot_mark o ≡ Has Black → (spot_mark p ≡ Has Black) × (spot_serial p ≡ spot_serial o)
  still_black not e = grind arith

  still_grey : phase_in g ≡ phases.Sweep → spot_mark o ≡ Has Grey → (spot_mark p ≡ Has Grey) × (spot_serial p ≡ spot_serial o)
  still_grey at e = grind arith

  was_grey : phase_in g ≡ phases.Sweep → spot_mark p ≡ Has Grey → spot_mark o ≡ Has Grey
  was_grey at e = grind arith

  turned_parked : (z : Spot) → o ≡ Some z → keeps g i z.colour ≡ false → ((y : Spot) × (p ≡ Some y) × (y.serial ≡ z.serial)) ⊎ ((p ≡ None) × (g ≡ values.Sweep i))
  turned_parked z at dark = grind arith

  frees_here : ((z : Spot) × (o ≡ Some z) × (z.colour ≡ White) × (p ≡ None) × (g ≡ values.Sweep i)) ⊎ (free_one p ≡ free_one o)
  frees_here = grind arith

  frees_more : free_one o ≤ free_one p
  frees_more = grind arith

-- A sum that is larger at one number is larger.
less_at : (f h : ℕ → ℕ) (n j : ℕ) → ((i : ℕ) → f i ≤ h i) → j < n → f j < h j → total f n < total h n
less_at f h zero j each b more = absurd (omega (arith, b))
less_at f h (suc n) j each b more = let rest = less_at f h n j each in let last = each n in let all = at_most n in elim (cases_eq j n) [
  | inl is ↦ (let here : f n < h n = subst (λ (m : ℕ). f m < h m) is more in omega (arith, here, all))
  | inr other ↦ (let before = rest (omega (arith, b, other)) more in omega (arith, before, last))
] where
  at_most : (m : ℕ) → total f m ≤ total h m
  at_most zero = omega arith
  at_most (suc m) = let e = at_most m in let l = each m in omega (arith, e, l)

not_seen : (g : Stage) (i : ℕ) (z : Spot) → seen g i (Some z) ≡ None → keeps g i z.colour ≡ false
not_seen g i z e = grind arith

not_kept : (g : Stage) (i : ℕ) (z : Spot) → keeps g i z.colour ≡ false → seen g i (Some z) ≡ None
not_kept g i z e = grind arith

new_ungrey : (g : Stage) (i : ℕ) → new_colour g i ≢ Grey
new_ungrey g i e = let u = new_is g i in grind arith

white_ahead : (k : ℕ) → keeps (values.Sweep k) k White ≡ false
white_ahead k = grind arith

-- A root's slot, and a grey vertex with an edge, by their serials.
module _ (v : Stored) (s : IsStore v) where
  once_v : Once v
  once_v = once_so v s.once

  root_named : (i x : ℕ) → IsRootAt v i → serial_in_slot v i ≡ Some x → IsRootIn v x
  root_named i x r named =
      let q = root_listed v.roots i r in
      let k = place_kept v q.0.slot q.0.serial (s.named q.0 q.1) in
      let there : serial_in_slot v q.0.slot ≡ Some k.0.serial = kept_name v.stage q.0.slot (spot_at v q.0.slot) k.0 k.1 in
      let here : serial_in_slot v q.0.slot ≡ Some x = ap (serial_in_slot v) q.2 ∙ named in
      subst (IsRootIn v) (let both = sym there ∙ here in let serial = k.2 in grind arith) (in_root v q.0 q.1)

  called_in : (i x : ℕ) → IsCalled (shown_body v) i → serial_in_slot v i ≡ Some x → IsCalledIn v x
  called_in i x (inl r) named = inl (root_named i x r named)
  called_in i x (inr (j, z, e, at, grey, mine, to)) named =
      let here : kept v j ≡ Some (as_kept z) = ap (seen v.stage j) at ∙ (let lit : keeps v.stage j z.colour ≡ true = ap (keeps v.stage j) grey ∙ keeps_grey v.stage j in grind arith) in
      let there = s.closed.edges j (as_kept z) e here mine in
      let leads : serial_in_slot v e.target ≡ Some there.0.serial = kept_name v.stage e.target (spot_at v e.target) there.0 there.1 in
      let same : e.serial ≡ x = (let both = sym leads ∙ ap (serial_in_slot v) to ∙ named in let is = there.2 in grind arith) in
      inr (
        z.serial,
        (j, ap spot_mark at ∙ ap (λ c. Has c) grey, ap spot_serial at),
        subst (IsEdgeIn v z.serial) same (edge_shown v j (as_kept z) e here mine (s.labelled j e (subst (λ o. Contains (values.spot_edges o) e) (sym at) mine))),
      )

-- What each store has.
pub stores_are_in_graph : StoresAreInGraph
stores_are_in_graph v next s = record {
  parked = λ not x (i, (z, at, dark), named). not (parks_in_sweep v.stage i z dark);
  black = λ idle x (i, black, named). s.idle (let e = idle in rests v.stage e) i black;
  leads = λ x y (r, h). let t : Triple = record { from = x; right = r; to = y } in (s.from_held t h, s.to_held t h, s.distinct t h);
  apart = s.apart;
  roots = s.roots_held;
  slots = s.slots next;
  few_edges = s.few_edges next;
  all_cells = λ none. s.all_cells none next;
  left = (s.some_left, s.most_left);
} where
  rests : (g : Stage) → phase_in g ≡ phases.Idle → g ≡ values.Idle
  rests g e = grind arith

-- A store that was opened.
pub opens_in_graph : OpensInGraph
opens_in_graph v G all_slots all_cells o = record {
  phase = opened_phase o;
  held = opened_graph o;
  parked = λ x h. idle_unparked v (opened_phase o) x h;
  grey = λ x h. elim (o.opens.marks h.0) [ inl free ↦ (let grey = h.1 in let both = sym free ∙ grey in grind arith) | inr white ↦ (let grey = h.1 in let both = sym white ∙ grey in grind arith) ];
  black = λ x h. elim (o.opens.marks h.0) [ inl free ↦ (let black = h.1 in let both = sym free ∙ black in grind arith) | inr white ↦ (let black = h.1 in let both = sym white ∙ black in grind arith) ];
}

-- A collector step.
module _ {v w : Stored} {freed : ℕ} {ended : Bool} (s : IsStore v) (t : IsStore w) (c : Collected v w freed ended) (next : ℕ) where
  stay : (StartsSweep v w → ⊥) → Stays v.stage w.stage
  stay not = stays_unless (slot_count v) v.stage w.stage ended c.step.phases not

  -- Where the sweep starts.
  module _ (b : StartsSweep v w) where
    at : (v.stage ≡ values.Mark) × (w.stage ≡ values.Sweep 0)
    at = starts_at (slot_count v) v.stage w.stage ended c.step.phases b.0 b.1

    parks : Parks (shown_body v) (shown_body w) v.stage w.stage
    parks = c.step.parks at.0 at.1

    parks_one : (x : ℕ) → IsHeldIn v x → StaysOrIsParked v w next x
    parks_one x h = by (held_kept v x h) where
      by : (i : ℕ) × (k : Kept) × (kept v i ≡ Some k) × (k.serial ≡ x) → StaysOrIsParked v w next x
      by (i, k, is, serial) = elim (black_or (mark_in v i)) [
        | inl e ↦ inl ((i, e, named), subst (IsHeldIn w) serial (kept_held w i k (once_v w t) (parks.black i e ∙ is)))
        | inr not ↦ inr (
          λ q. not (subst (λ (j : ℕ). mark_in v j ≡ Has Black) (s.once q.0 i x q.2 named) q.1),
          λ l. (let r = live_slots v s next x l in not (subst (λ (j : ℕ). mark_in v j ≡ Has Black) (once_v v s r.0 i r.1 k r.3 is (r.4 ∙ sym serial)) (parks.unreached r.0 r.2))),
          (i, parks.all i k is not, ap spot_serial (parks.same i) ∙ named),
        )
      ] where
        named : serial_in_slot v i ≡ Some x
        named = kept_name v.stage i (spot_at v i) k is ∙ ap (λ (y : ℕ). Some y) serial

    part : IsPart (held v next) (held w next)
    part = collected_part c next (held v next).names (held v next).retired (held v next) (record {
      vertices = λ x h. refl;
      labels = λ x y h. refl;
      closed = λ x y h e. let there = edge_in v next x y e in s.to_held (record { from = x; right = there.0; to = y }) there.1;
      names = refl;
      retired = refl;
    }) s t

  parked_before : (x : ℕ) → IsParkedIn w x → IsParkedIn v x ⊎ (StartsSweep v w × IsHeldIn v x)
  parked_before x h = elim (collected_parked c s x h) [
    | inl old ↦ inl old
    | inr there ↦ elim (starts_or (phase v) (phase w)) [
      | inl b ↦ inr (b, there)
      | inr not ↦ absurd (t.apart x (ap (λ g. finmap.contains_key g.vertices x) (c.held (stay not) 0) ∙ there) h)
    ]
  ]

  -- A parked slot that is not freed stays parked.
  module _ (i x : ℕ) (z : Spot) (here : spot_at v i ≡ Some z) (dark : keeps v.stage i z.colour ≡ false) (named : serial_in_slot v i ≡ Some x) where
    not_start : StartsSweep v w → ⊥
    not_start b = let sweep = parks_in_sweep v.stage i z dark in let mark = b.0 in grind arith

    parked_still : IsParkedIn w x ⊎ ((spot_at w i ≡ None) × (v.stage ≡ values.Sweep i))
    parked_still = elim (turned_parked (shown_body v) v.stage i (spot_at v i) (spot_at w i) (c.step.turns i) z here dark) [
      | inl (y, there, serial) ↦ (
          let none : seen w.stage i (Some y) ≡ None = sym (ap (seen w.stage i) there) ∙ c.step.held (stay not_start) i ∙ ap (seen v.stage i) here ∙ not_kept v.stage i z dark in
          inl (i, (y, there, not_seen w.stage i y none), ap spot_serial there ∙ ap (λ (n : ℕ). Some n) serial ∙ sym (ap spot_serial here) ∙ named)
          )
      | inr gone ↦ inr gone
    ]

    -- One that is freed counts.
    freed_counts : spot_at w i ≡ None → 1 ≤ freed
    freed_counts gone =
        let less = less_at (λ j. free_one (spot_at v j)) (λ j. free_one (spot_at w j)) (slot_count v) i (λ j. frees_more (shown_body v) v.stage j (spot_at v j) (spot_at w j) (c.step.turns j)) (at_within v.slots i z here)
        (let a : free_one (spot_at v i) ≡ 0 = ap free_one here in let b : free_one (spot_at w i) ≡ 1 = ap free_one gone in omega (arith, a, b)) in
        let size = c.step.size in
        let count = c.free_slots in
        let same : total (λ j. free_one (spot_at w j)) (slot_count w) ≡ total (λ j. free_one (spot_at w j)) (slot_count v) = ap (total (λ j. free_one (spot_at w j))) size in
        omega (arith, less, count, same)

  frees_none : freed ≡ 0 → FreesNone v w
  frees_none zero' x (i, (z, here, dark), named) = elim (parked_still i x z here dark named) [
    | inl there ↦ there
    | inr gone ↦ absurd (let one = freed_counts i x z here dark named gone.0 in omega (arith, one, zero'))
  ]

  frees_one : freed ≡ 1 → FreesOne v w
  frees_one one = by (sweeps_at v.stage sweep) where
    sweep : phase v ≡ phases.Sweep
    sweep = elim c.freed [ inl e ↦ e | inr none ↦ absurd (omega (arith, one, none)) ]

    by : (k : ℕ) × (v.stage ≡ values.Sweep k) → FreesOne v w
    by (k, at) = of (frees_here (shown_body v) v.stage k (spot_at v k) (spot_at w k) (c.step.turns k)) where
      others : (j : ℕ) → free_one (spot_at w k) ≡ free_one (spot_at v k) → free_one (spot_at w j) ≡ free_one (spot_at v j)
      others j here = elim (frees_here (shown_body v) v.stage j (spot_at v j) (spot_at w j) (c.step.turns j)) [
        | inl (z, was, white, gone, there) ↦ (let same : j ≡ k = (let both = sym there ∙ at in grind arith) in subst (λ (n : ℕ). free_one (spot_at w n) ≡ free_one (spot_at v n)) (sym same) here)
        | inr e ↦ e
      ]

      of : ((z : Spot) × (spot_at v k ≡ Some z) × (z.colour ≡ White) × (spot_at w k ≡ None) × (v.stage ≡ values.Sweep k)) ⊎ (free_one (spot_at w k) ≡ free_one (spot_at v k)) → FreesOne v w
      of (inr e) =
          let same : total (λ j. free_one (spot_at w j)) (slot_count v) ≡ total (λ j. free_one (spot_at v j)) (slot_count v) = λ n. total (λ j. others j e n) (slot_count v) in
          let size : total (λ j. free_one (spot_at w j)) (slot_count w) ≡ total (λ j. free_one (spot_at w j)) (slot_count v) = ap (total (λ j. free_one (spot_at w j))) c.step.size in
          let count = c.free_slots in
          absurd (omega (arith, same, size, count, one))
      of (inl (z, was, white, gone, there)) = (sweep, z.serial, (parked, λ still. slotless still), λ y h. rest y h) where
        dark : keeps v.stage k z.colour ≡ false
        dark = ap (λ (g : Stage). keeps g k z.colour) at ∙ ap (keeps (values.Sweep k) k) white ∙ white_ahead k

        parked : IsParkedIn v z.serial
        parked = (k, (z, was, dark), ap spot_serial was)

        slotless : IsHeldIn w z.serial ⊎ IsParkedIn w z.serial → ⊥
        slotless (inl h) = s.apart z.serial (ap (λ g. finmap.contains_key g.vertices z.serial) (sym (c.held (stay (not_start k z.serial z was dark (ap spot_serial was))) 0)) ∙ h) parked
        slotless (inr (j, q, named)) =
            let before = turns_name (shown_body v) v.stage j z.serial (spot_at v j) (spot_at w j) (c.step.turns j) named in
            let same : j ≡ k = s.once j k z.serial before (ap spot_serial was) in
            let empty : serial_in_slot w j ≡ None = ap (λ (n : ℕ). serial_in_slot w n) same ∙ ap spot_serial gone in
            let both = sym empty ∙ named in grind arith

        rest : (y : ℕ) → IsParkedIn v y → IsParkedIn w y ⊎ (y ≡ z.serial)
        rest y (j, (q, here, low), named) = elim (parked_still j y q here low named) [
          | inl stays ↦ inl stays
          | inr (left, elsewhere) ↦ inr (
              let same : j ≡ k = (let both = sym elsewhere ∙ at in grind arith) in
              let both : Some y ≡ Some z.serial = sym named ∙ ap (serial_in_slot v) same ∙ ap spot_serial was in
              grind arith
              )
        ]

  grey_before : (x : ℕ) → IsGreyIn w x → IsGreyIn v x ⊎ IsCalledIn v x
  grey_before x (i, grey, named) =
      let before = turns_name (shown_body v) v.stage i x (spot_at v i) (spot_at w i) (c.step.turns i) named in
      elim (turned_grey (shown_body v) v.stage i (spot_at v i) (spot_at w i) (c.step.turns i) grey) [
        | inl old ↦ inl (i, old, before)
        | inr called ↦ inr (called_in v s i x called before)
      ]

  black_before : (x : ℕ) → IsBlackIn w x → IsBlackIn v x ⊎ IsGreyIn v x
  black_before x (i, black, named) =
      let before = turns_name (shown_body v) v.stage i x (spot_at v i) (spot_at w i) (c.step.turns i) named in
      elim (turned_black (shown_body v) v.stage i (spot_at v i) (spot_at w i) (c.step.turns i) black) [ inl old ↦ inl (i, old, before) | inr grey ↦ inr (i, grey, before) ]

  black_after : phase v ≢ phases.Sweep → (x : ℕ) → IsBlackIn v x → IsBlackIn w x
  black_after not x (i, black, named) = let r = still_black (shown_body v) v.stage i (spot_at v i) (spot_at w i) (c.step.turns i) not black in (i, r.0, r.1 ∙ named)

  grey_after : phase v ≡ phases.Sweep → (x : ℕ) → IsGreyIn v x ↔ IsGreyIn w x
  grey_after sweep x = (
    λ h. (let r = still_grey (shown_body v) v.stage h.0 (spot_at v h.0) (spot_at w h.0) (c.step.turns h.0) sweep h.1 in (h.0, r.0, r.1 ∙ h.2)),
    λ h. (h.0, was_grey (shown_body v) v.stage h.0 (spot_at v h.0) (spot_at w h.0) (c.step.turns h.0) sweep h.1, turns_name (shown_body v) v.stage h.0 x (spot_at v h.0) (spot_at w h.0) (c.step.turns h.0) h.2),
  )

  collected_in_graph : CollectedInGraph v w next freed ended
  collected_in_graph =
      record {
        phases = collected_turns c;
        roots = (ap (λ (r : RootLists). map (λ (q : Root). q.serial) r.principals) c.roots, ap (λ (r : RootLists). map (λ o. root_serial o) r.targets) c.roots, ap (λ (r : RootLists). map (λ o. root_serial o) r.agents) c.roots);
        held = λ not. c.held (stay not) next;
        no_grey = λ b x h. (parks b).no_grey h.0 h.1;
        part = part;
        parks = parks_one;
        parked = parked_before;
        freed = (let few = c.few in elim (cases_eq freed 0) [ inl none ↦ inl (none, frees_none none) | inr some ↦ (let one : freed ≡ 1 = omega (arith, few, some) in inr (one, frees_one one)) ]);
        grey = grey_before;
        black = black_before;
        still_black = black_after;
        still_grey = grey_after;
        free_slots = c.free_slots;
        free_cells = c.free_cells;
        marks = c.marks;
        left = c.left;
      }

pub collects_in_graph : CollectsInGraph
collects_in_graph v w next freed ended s t c = collected_in_graph s t c next

-- What a session step does to one slot.
module _ (v : Stored) (new target : Option ℕ) (i : ℕ) (o p : Option Spot) (change : SlotChanged v new target i o p) where
  acted_grey : spot_mark p ≡ Has Grey → ((spot_mark o ≡ Has Grey) ⊎ IsRootAt v i) × ((spot_serial o ≡ spot_serial p))
  acted_grey e = let fresh = new_ungrey v.stage i in grind arith

  acted_black : (x : ℕ) → spot_mark p ≡ Has Black → spot_serial p ≡ Some x → ((spot_mark o ≡ Has Black) × (spot_serial o ≡ Some x)) ⊎ (new ≡ Some x)
  acted_black x e named = grind arith

  acts_grey : spot_mark o ≡ Has Grey → (spot_mark p ≡ Has Grey) × (spot_serial p ≡ spot_serial o)
  acts_grey e = grind arith

  acts_black : spot_mark o ≡ Has Black → (spot_mark p ≡ Has Black) × (spot_serial p ≡ spot_serial o)
  acts_black e = grind arith

  acts_parked : (IsRootAt v i → ⊥) → (z : Spot) → o ≡ Some z → (y : Spot) × (p ≡ Some y) × (y.colour ≡ z.colour) × (y.serial ≡ z.serial)
  acts_parked not z at = grind arith

-- A session step.
module _ {v w : Stored} {new target : Option ℕ} (s : IsStore v) (a : Acted v w new target) where
  parked_after : (x : ℕ) → IsParkedIn v x → IsParkedIn w x
  parked_after x (i, (z, here, dark), named) =
      let r = acts_parked v new target i (spot_at v i) (spot_at w i) (a.changes i) no_root z here in
      (i, (r.0, r.1, ap (λ (g : Stage). keeps g i r.0.colour) a.stage ∙ ap (keeps v.stage i) r.2 ∙ dark), ap spot_serial r.1 ∙ ap (λ (n : ℕ). Some n) r.3 ∙ sym (ap spot_serial here) ∙ named)
    where
      no_root : IsRootAt v i → ⊥
      no_root r = let k = s.closed.roots i r in let lit = held_keeps (shown_body v) v.stage i k.0 k.1 z here in let both = sym lit ∙ dark in grind arith

  acted_in_graph : ActedInGraph v w new
  acted_in_graph = record {
    phase = acted_phase a;
    parked = λ x. (acted_parked a x, parked_after x);
    grey = λ x h. (let r = acted_grey v new target h.0 (spot_at v h.0) (spot_at w h.0) (a.changes h.0) h.1 in elim r.0 [ inl old ↦ inl (h.0, old, r.1 ∙ h.2) | inr root ↦ inr (root_named v s h.0 x root (r.1 ∙ h.2)) ]);
    still_grey = λ x h. (let r = acts_grey v new target h.0 (spot_at v h.0) (spot_at w h.0) (a.changes h.0) h.1 in (h.0, r.0, r.1 ∙ h.2));
    black = λ x h. elim (acted_black v new target h.0 (spot_at v h.0) (spot_at w h.0) (a.changes h.0) x h.1 h.2) [ inl old ↦ inl (h.0, old.0, old.1) | inr fresh ↦ inr fresh ];
    still_black = λ x h. (let r = acts_black v new target h.0 (spot_at v h.0) (spot_at w h.0) (a.changes h.0) h.1 in (h.0, r.0, r.1 ∙ h.2));
    left = a.left;
  }

pub acts_in_graph : ActsInGraph
acts_in_graph v w new target s t a = acted_in_graph s a

-- A shade.
lit_or : (o : Option Spot) (x : ℕ) → spot_serial o ≡ Some x → spot_mark o ≢ Has White → (spot_mark o ≡ Has Grey) ⊎ (spot_mark o ≡ Has Black)
lit_or o x named lit = grind arith

pub shades_in_graph : ShadesInGraph
shades_in_graph v w seat x s shaded =
    let i = shaded.slot in
    let k = place_kept v i x shaded.place in
    let named : serial_in_slot v i ≡ Some x = kept_name v.stage i (spot_at v i) k.0 k.1 ∙ ap (λ (n : ℕ). Some n) k.2 in
    let same : spot_at w i ≡ values.spot (shade (shown_body v) i) i = ap (λ (z : Stored). spot_at z i) shaded.is in
    let after : serial_in_slot w i ≡ Some x = ap spot_serial same ∙ shade_name (shown_body v) i i ∙ named in
    let lit : mark_in w i ≢ Has White = λ white. shade_done (shown_body v) i (sym (ap spot_mark same) ∙ white) in
    elim (lit_or (spot_at w i) x after lit) [ inl grey ↦ inl (i, grey, after) | inr black ↦ inr (i, black, after) ]
