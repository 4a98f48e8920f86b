-- What is held, listed slot by slot.
use Rattle.std.proofs.Common.{◌≡◌, ◌<◌, ℕ, List, Option, Some, None, true, false, sym, ◌∙◌, subst, ap, refl, MatchOption}
use Rattle.tg_collect.proofs.Common.{Contains, Edge, edges, spot_edges, Free, held, in_slot, is_none, is_some, IsStore, join, Kept, kept, Listed, lists_of, Machine, mark_at, Occupant, option_map, option_to_list, same_Some, kept_serial, slot, spot_at, Stored, stored, vertex}
use Rattle.std.specs.Prelude.{IsSome}
use Rattle.tg_marking.specs.Promise.Values as values
use Rattle.tg_collect.specs.Promise.Readings.{IsHeldIn, place, serial_in_slot}
use Rattle.tg_graph.specs.Promise.Opening as graph
use Rattle.tg_graph.specs.Promise.Protection.{label}
use Rattle.tg_graph.specs.Promise.Parts as listing
use Rattle.tg_graph.specs.Inner.Parts as Inner_listing
use Rattle.tg_collect.specs.declared.figures.Figure.{Figure}
use Rattle.tg_collect.specs.Promise.Figures.{IsArrow, figure, figure_in}
use Rattle.tg_collect.specs.Inner.Figures.{arrows}
use Rattle.tg_collect.specs.Promise.Parts.{ListsHeld, ListsSerials}
use Rattle.tg_collect.specs.Inner.Parts.{AreFound, listed_at, listed_as}
use Rattle.tg_collect.proofs.FiguresLemmas.{given, taken}
use Rattle.tg_collect.proofs.FoundLemmas.{chosen, optional}
use Rattle.tg_collect.proofs.EdgesLemmas.{label_here, slot_edges}
use Rattle.tg_collect.proofs.ShownLemmas.{Once, place_kept, shown_edge, vertex_found}
use Rattle.tg_collect.proofs.SlotLemmas.{at_free, zip_at}
use Rattle.tg_collect.proofs.StoreLemmas.{edge_in, once_so, kept_name}

-- What a slot that shows a held vertex holds.
pub text_there : {X : Type 0} (m : Machine) (i : ℕ) (f : Figure) (text : Option X) (get : X → List ℕ) → Some f ≡ figure (stored m) i → MatchOption text (mark_at m.heap i ≡ Free) (λ t. in_slot (λ o. o.text) (slot m.heap.table i) ≡ Some (get t)) → IsSome text
text_there m i f None get is free = absurd (cc (is, ap (figure_in (stored m).stage i) (at_free m.heap (lists_of m.roots) i free)))
text_there m i f (Some t) get is there = refl

pub listed_shown : (m : Machine) (i : ℕ) (f : Figure) (text : List ℕ) → Some f ≡ figure (stored m) i → f.is_held ≡ true → in_slot (λ o. o.text) (slot m.heap.table i) ≡ Some text → ◌≡◌ {A = Option Listed} (Some (f.serial, f.kind, text)) (listed_at (stored m) i)
listed_shown m i f text is still there = by (slot m.heap.table i) (rw (zip_at m.heap.table.slots m.heap.lists i) at is) there ∙ sym (ap (option_map listed_as) (ap (values.seen (stored m).stage i) (zip_at m.heap.table.slots m.heap.lists i))) where
  by : (o : Option Occupant) → Some f ≡ figure_in (stored m).stage i (join o (edges m.heap i)) → in_slot (λ q. q.text) o ≡ Some text → ◌≡◌ {A = Option Listed} (Some (f.serial, f.kind, text)) (option_map listed_as (values.seen (stored m).stage i (join o (edges m.heap i))))
  by None is there = absurd (cc)
  by (Some o) is there = let keeps : values.keeps (stored m).stage i o.colour ≡ true = cc in rw keeps (cc)

-- ---- what is listed, in the graph

listed_kept : (o : Option Kept) (x : Listed) → option_map listed_as o ≡ Some x → (k : Kept) × (o ≡ Some k) × (listed_as k ≡ x)
listed_kept None x is = absurd (cc)
listed_kept (Some k) x is = (k, refl, same_Some _ x is)

pub listed_named : (v : Stored) (i : ℕ) (x : Listed) → listed_at v i ≡ Some x → serial_in_slot v i ≡ Some x.0
listed_named v i x is = let k = listed_kept (kept v i) x is in kept_name v.stage i (spot_at v i) k.0 k.1 ∙ ap (λ (y : Listed). Some y.0) k.2

module _ (v : Stored) (s : IsStore v) where
  once : Once v
  once = once_so v s.once

  pub serials_held : (xs : List ℕ) → AreFound (λ i. option_to_list (place v i)) (λ a b. a < b) xs → ListsSerials v xs
  serials_held xs found = record {
    held = λ x. (
      λ h. (
          let at = (found.has x).0 h in
          let t = place_kept v at.0 x (optional _ x at.1) in
          subst (λ (y : ℕ). IsHeldIn v y) t.2 (ap is_some (vertex_found v 0 at.0 t.0 once t.1))),
      λ is. (let at = s.has_place x is in (found.has x).1 (at.0, chosen _ x at.1)),
    );
    rising = found.rising;
  }

  pub lists_held : (vs : List Listed) (es : List graph.ListedEdge) → AreFound (λ i. option_to_list (listed_at v i)) (λ a b. a.0 < b.0) vs → AreFound (arrows v false) listing.Before es → ListsHeld v vs es
  lists_held vs es found led = record {
    vertices = λ next x k text. (
      λ h. (
          let at = (found.has (x, k, text)).0 h in
          let t = listed_kept (kept v at.0) (x, k, text) (optional _ (x, k, text) at.1) in
          subst (λ (l : Listed). vertex (held v next) l.0 ≡ Some (Inner_listing.listed_vertex l)) t.2 (vertex_found v next at.0 t.0 once t.1)),
      λ is. (
          let at = s.has_place x (ap is_some is) in
          let t = place_kept v at.0 x at.1 in
          let same : Inner_listing.listed_vertex (t.0.serial, t.0.kind, t.0.text) ≡ record { kind = k; text = text } = same_Some _ _ (sym (vertex_found v next at.0 t.0 once t.1) ∙ ap (vertex (held v next)) t.2 ∙ is) in
          (found.has (x, k, text)).1 (at.0, chosen _ (x, k, text) (ap (option_map listed_as) t.1 ∙ (λ j. Some (t.2 j, (same j).kind, (same j).text))))),
    );
    edges = λ next x y l. (
      λ h. (
          let r = (led.has (x, l, y)).0 h in
          let (a, same, at) = given v false r.0 (x, l, y) r.1 in
          let t = place_kept v r.0 x at in
          let owned = subst (λ (es : List Edge). Contains es a.edge) (ap (λ (i : ℕ). spot_edges (spot_at v i)) same ∙ slot_edges v once s.closed s.serials s.labelled next r.0 t.0 t.1) a.owned in
          let is : label (held v next) x y ≡ l = (λ j. label (held v next) (sym t.2 j) (sym a.to j)) ∙ label_here v once s.closed s.serials s.labelled next r.0 t.0 t.1 a.edge owned ∙ a.label in
          (sym is, ap is_none (is ∙ sym a.label) ∙ s.labelled a.slot a.edge a.owned)),
      λ is. (
          let (i, k, e, here, owned, from, to) = shown_edge v x y (edge_in v next x y is.1) in
          let there = s.closed.edges i k e here owned in
          let arrow : IsArrow v x l y = record {
            slot = i;
            edge = e;
            from = kept_name v.stage i (spot_at v i) k here ∙ ap (λ (z : ℕ). Some z) from;
            owned = subst (λ (l : List Edge). Contains l e) (sym (slot_edges v once s.closed s.serials s.labelled next i k here)) owned;
            label = sym (label_here v once s.closed s.serials s.labelled next i k here e owned) ∙ (λ j. label (held v next) (from j) (to j)) ∙ sym is.0;
            to = to;
            there = kept_name v.stage e.target (spot_at v e.target) there.0 there.1 ∙ ap (λ (z : ℕ). Some z) (there.2 ∙ to);
          } in
          (led.has (x, l, y)).1 (i, taken v false x y l arrow (ap kept_serial here ∙ ap (λ (z : ℕ). Some z) from))),
    );
    by_serial = found.rising;
    by_pairs = led.rising;
  }
