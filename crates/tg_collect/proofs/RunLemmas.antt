-- A run of a store is a run of its slots; what was not live is gone, and there are few steps between two ends.
use Rattle.std.proofs.Common.{◌≡◌, ℕ, suc, ◌+◌, ◌<◌, ◌≤◌, List, Option, Some, ◌⊎◌, inl, inr, Bool, true, false, sym, ◌∙◌, subst, ap, refl, arith, map, None, set}
use Rattle.tg_collect.proofs.Common.{turns_name, keeps_grey, kept_is, Spot, Body, Kept, seen, Stored, kept, shown_body, spot_at, held, IsHeldIn, IsParkedIn, IsStore, is_some, is_none, Protection, spot_serial, total, Root, kept_serial, root_serial, pending_of, TextReplaced, map-set, set-get_or, same_Some, Live, IsPart, IsGraph, vertex, with_text, subjects, Stage, keeps, IsLiveIn, Sane, BodyRun, free_one, phase_in, slot_count, cycle_bound, IsRootIn, phase, principals, pending, agents, new_keeps, CallsAct, IsLiveOrNew, free_slots, SlotChanged, Acted, Shaded, StoreRun, start, acts, goes, StoresAreComplete, StoresAreBounded, Collected, Opened, IsRoll, Member, nat_cmp, vertices}
use Rattle.tg_collect.specs.Promise.Readings.{PhaseTurns}
use Rattle.tg_marking.specs.Promise.Values as values
use Rattle.tg_marking.specs.Promise.Runs as runs
use Rattle.tg_marking.proofs.RunLemmas as marked
use Rattle.tg_marking.proofs.MutatorLemmas as mutator
use Rattle.tg_marking.specs.Promise.Collected.{Follows}
use Rattle.std.specs.FinSet as finset
use Rattle.tg_graph.specs.Promise.Protection.{label}
use Rattle.tg_collect.specs.Promise.Runs.{ends}
use Rattle.tg_collect.proofs.SlotLemmas.{root_listed}
use Rattle.tg_collect.proofs.ShownLemmas.{held_kept, kept_held, named_label, place_kept, Once, vertex_found}
use Rattle.tg_collect.proofs.StoreLemmas.{once_so, in_root, live_slots, slots_live, root_live, edge_in, label_same}
use Rattle.tg_collect.specs.declared.note.Phase.TheVariants.{Idle}

sane : (v : Stored) → IsStore v → Sane (shown_body v) v.stage
sane v s = record { closed = s.closed; once = s.once; idle = s.idle }

-- A session step of a store is one of its slots.
module _ (v w : Stored) (new target : Option ℕ) (next : ℕ) (s : IsStore v) (t : IsStore w) (a : Acted v w new target) (news : (x : ℕ) → new ≡ Some x → next ≤ x)
    (targets : (x : ℕ) → target ≡ Some x → Live (held v next) (IsRootIn v) x ⊎ (next ≤ x)) where
  abbrev Wanted : ℕ → Type 0
  Wanted x = IsLiveOrNew (shown_body v) v.stage next x

  wanted : (x : ℕ) → target ≡ Some x → Wanted x
  wanted x e = elim (targets x e) [ inl l ↦ inl (live_slots v s next x l) | inr n ↦ inr n ]

  root_before : (x : ℕ) → IsRootIn w x → Wanted x
  root_before x (inl p) = elim (a.principals x p) [ inl old ↦ inl (root_live v s x (inl old)) | inr e ↦ inr (news x e) ]
  root_before x (inr (inl p)) = elim (a.pending x p) [ inl old ↦ inl (root_live v s x (inr (inl old))) | inr e ↦ wanted x e ]
  root_before x (inr (inr p)) = elim (a.agents x p) [ inl old ↦ inl (root_live v s x (inr (inr old))) | inr e ↦ wanted x e ]

  mutated : runs.Mutated (shown_body v) v.stage (shown_body w) next
  mutated = mutator.mutated (shown_body v) (shown_body w) v.stage next (λ x. new ≡ Some x) (λ x. target ≡ Some x) s.closed.roots news wanted a.changes (λ i k r h.
      let q = root_listed w.roots i r in
      let p = place_kept w q.0.slot q.0.serial (t.named q.0 q.1) in
      let here : kept w q.0.slot ≡ Some k = subst (λ (j : ℕ). kept w j ≡ Some k) (sym q.2) (ap (λ (z : Stage). values.kept_in (shown_body w) z i) a.stage ∙ h) in
      let serial : q.0.serial ≡ k.serial = sym p.2 ∙ ap (λ (z : Kept). z.serial) (same_Some p.0 k (sym p.1 ∙ here)) in
      subst Wanted serial (root_before q.0.serial (in_root w q.0 q.1)))

pub calls_act : CallsAct
calls_act v w new target next s t a news targets = record { step = mutated v w new target next s t a news targets; stage = a.stage; slots = a.slots; cells = a.cells; left = a.left }

-- The last state of a run is a store of the same size; collector steps since an end, and what is left, are at most the
-- number of a cycle's steps.
pub record Known (first v : Stored) (since : ℕ) : Type 0 where
  pub store : IsStore v
  slots : slot_count v ≡ slot_count first
  cells : v.cells ≡ first.cells
  left : since + v.left ≤ cycle_bound (slot_count first) first.cells

pub known : (next : ℕ) (first v : Stored) (ended since : ℕ) → IsStore first → StoreRun next first v ended since → Known first v since
known next first _ _ _ s start = record { store = s; slots = refl; cells = refl; left = let h = s.most_left in omega (arith, h) }
known next first _ _ _ s (acts v w n k r a t) =
    let h = known next first v n k s r in record { store = t; slots = a.slots ∙ h.slots; cells = a.cells ∙ h.cells; left = let l = h.left in let less = a.left in omega (arith, l, less) }
known next first _ _ _ s (goes v w n k count r c t) =
    let h = known next first v n k s r in record { store = t; slots = c.step.size ∙ h.slots; cells = c.cells ∙ h.cells; left = let l = h.left in elim c.left [ inl never ↦ absurd (cc) | inr less ↦ omega (arith, l, less) ] }
known next first _ _ _ s (ends v w n k count r c t) =
    let h = known next first v n k s r in
    let slots = c.step.size ∙ h.slots in
    let cells = c.cells ∙ h.cells in
    record { store = t; slots = slots; cells = cells; left = rw (sym slots, sym cells) (let l = t.most_left in omega (arith, l)) }

-- The run is one of its slots.
run_of : (next : ℕ) (b : Body) (p : Stage) (first v : Stored) (ended since : ℕ) → IsStore first → BodyRun next b p (shown_body first) first.stage 0 → StoreRun next first v ended since → BodyRun next b p (shown_body v) v.stage ended
run_of next b p first _ _ _ s z start = z
run_of next b p first _ _ _ s z (acts v w n k r a t) =
    subst (λ (q : Stage). BodyRun next b p (shown_body w) q n) (sym a.stage) (runs.acts (shown_body v) (shown_body w) v.stage n (run_of next b p first v n k s z r) a.step (subst (λ (q : Stage). Sane (shown_body w) q) a.stage (sane w t)))
run_of next b p first _ _ _ s z (goes v w n k count r c t) = runs.goes (shown_body v) (shown_body w) v.stage w.stage n (run_of next b p first v n k s z r) c.step (sane w t)
run_of next b p first _ _ _ s z (ends v w n k count r c t) =
    let up : suc n ≡ n + 1 = omega arith in
    subst (λ (m : ℕ). BodyRun next b p (shown_body w) w.stage m) up (runs.ends (shown_body v) (shown_body w) v.stage w.stage n (run_of next b p first v n k s z r) c.step (sane w t))

pub complete : StoresAreComplete
complete v w u next ended since count s idle c t below r two x has =
    let rest : v.stage ≡ values.Idle = grind arith in
    let begin : BodyRun next (shown_body v) v.stage (shown_body w) w.stage 0 = runs.goes (shown_body v) (shown_body w) v.stage w.stage 0 runs.begin c.step (sane w t) in
    let whole : BodyRun next (shown_body v) values.Idle (shown_body u) u.stage ended = subst (λ (p : Stage). BodyRun next (shown_body v) p (shown_body u) u.stage ended) rest (run_of next (shown_body v) v.stage w u ended since t begin r) in
    let low : (i : ℕ) (k : Kept) → values.kept_in (shown_body v) values.Idle i ≡ Some k → k.serial < next = λ i k e. below k.serial (kept_held v i k (once_so v s.once) (ap (λ (p : Stage). values.kept_in (shown_body v) p i) rest ∙ e)) in
    let at = slot_of has in
    elim (marked.complete (shown_body v) (shown_body u) u.stage next ended (subst (λ (p : Stage). Sane (shown_body v) p) rest (sane v s)) low whole two at.0 at.1 at.2) [
      | inl l ↦ inl (slots_live v s next x (subst (λ (y : ℕ). IsLiveIn (shown_body v) v.stage y) at.3 (subst (λ (p : Stage). IsLiveIn (shown_body v) p at.1.serial) (sym rest) l)))
      | inr n ↦ inr (subst (λ (y : ℕ). next ≤ y) at.3 n)
    ]
  where
    slot_of : IsHeldIn u x ⊎ IsParkedIn u x → (i : ℕ) × (z : Spot) × (spot_at u i ≡ Some z) × (z.serial ≡ x)
    slot_of (inl h) = let k = held_kept u x h in let b = kept_is u.stage k.0 (spot_at u k.0) k.1 k.2 in (k.0, b.0, b.1, ap (λ (q : Kept). q.serial) b.3 ∙ k.3)
    slot_of (inr (i, (z, e, dark), n)) = (i, z, e, same_Some z.serial x (sym (ap values.spot_serial e) ∙ n))

pub bounded : StoresAreBounded
bounded v u next ended since s r = let h = known next v u ended since s r in let l = h.left in let some = h.store.some_left in omega (arith, l, some)

-- What each step of a store does, in the words of the graph of what is held, for the crates above.
-- a seat's target is another
pub pending_set : (v w : Stored) (seat : ℕ) (t : Option Root) → w.roots.targets ≡ set v.roots.targets seat t → pending w ≡ set (pending v) seat (root_serial t)
pending_set v w seat t is = ap (λ rs. map (λ o. root_serial o) rs) is ∙ map-set (λ o. root_serial o) v.roots.targets seat t

-- a seat's agent is another
pub agents_set : (v w : Stored) (seat : ℕ) (a : Option Root) → w.roots.agents ≡ set v.roots.agents seat a → agents w ≡ set (agents v) seat (root_serial a)
agents_set v w seat a is = ap (λ rs. map (λ o. root_serial o) rs) is ∙ map-set (λ o. root_serial o) v.roots.agents seat a

-- a text was replaced
pub text_graph : {v w : Stored} {x : ℕ} {text answer : List ℕ} → TextReplaced v w x text answer → (next : ℕ) → held w next ≡ with_text (held v next) x text (vertex (held v next) x)
text_graph {v} {w} {x} {text} replaced next = replaced.graph next ∙ sym (ap (with_text (held v next) x text) (replaced.was next))

-- a seat's target was shaded and cleared, if it had one
module _ (v w : Stored) (seat : ℕ) where
  pub shaded_graph : (answer : Option ℕ) → Shaded v w seat answer → (next : ℕ) → held w next ≡ held v next
  shaded_graph None shaded next = ap (λ z. held z next) shaded.1
  shaded_graph (Some x) shaded next = shaded.graph next

  pub shaded_pending : (answer : Option ℕ) → Shaded v w seat answer → pending w ≡ set (pending v) seat None
  shaded_pending None shaded = ap (λ z. pending z) shaded.1 ∙ sym (ap (set (pending v) seat) (sym shaded.0) ∙ set-get_or (pending v) seat None)
  shaded_pending (Some x) shaded = pending_set v w seat None (ap (λ z. z.roots.targets) shaded.is)

  pub shaded_others : (answer : Option ℕ) → Shaded v w seat answer → (principals w ≡ principals v) × (agents w ≡ agents v) × (w.free_cells ≡ v.free_cells)
  shaded_others None shaded = (ap (λ z. principals z) shaded.1, ap (λ z. agents z) shaded.1, ap (λ z. z.free_cells) shaded.1)
  shaded_others (Some x) shaded = (ap (λ z. principals z) shaded.is, ap (λ z. agents z) shaded.is, ap (λ z. z.free_cells) shaded.is)

  pub shaded_was : (answer : Option ℕ) → Shaded v w seat answer → answer ≡ pending_of v seat
  shaded_was None shaded = sym shaded.0
  shaded_was (Some x) shaded = sym shaded.was

-- what waits to be swept after a session step waited before it
was_parked : (v : Stored) (new target : Option ℕ) (i : ℕ) (o p : Option Spot) → SlotChanged v new target i o p → (s : Spot) → p ≡ Some s → keeps v.stage i s.colour ≡ false
    → (t : Spot) × (o ≡ Some t) × (keeps v.stage i t.colour ≡ false) × (t.serial ≡ s.serial)
was_parked v new target i o p change s at gone = let grey = keeps_grey v.stage i in let fresh = new_keeps v.stage i in grind arith

still_free : (v : Stored) (target : Option ℕ) (i : ℕ) (o p : Option Spot) → SlotChanged v None target i o p → free_one p ≡ free_one o
still_free v target i o p c = grind arith

turns_so : (size : ℕ) (g h : Stage) (ended : Bool) → Follows size g h ended → PhaseTurns (phase_in g) (phase_in h) ended
turns_so size g h ended f = grind arith

-- the phases of a collector step
pub collected_turns : {v w : Stored} {freed_slots : ℕ} {ended : Bool} → Collected v w freed_slots ended → PhaseTurns (phase v) (phase w) ended
collected_turns {v} {w} {freed_slots} {ended} c = turns_so (slot_count v) v.stage w.stage ended c.step.phases

module _ {v w : Stored} {new target : Option ℕ} (acted : Acted v w new target) where
  pub acted_phase : phase w ≡ phase v
  acted_phase = ap (λ s. phase_in s) acted.stage

  -- no session step parks
  pub acted_parked : (x : ℕ) → IsParkedIn w x → IsParkedIn v x
  acted_parked x (i, (s, at, gone), named) =
      let t = was_parked v new target i (spot_at v i) (spot_at w i) (acted.changes i) s at (subst (λ g. keeps g i s.colour ≡ false) acted.stage gone) in
      (i, (t.0, t.1, t.2), ap spot_serial t.1 ∙ ap (λ n. Some n) t.3 ∙ sym (ap spot_serial at) ∙ named)

module _ {v w : Stored} {target : Option ℕ} (acted : Acted v w None target) where
  -- only a vertex that comes takes a slot
  pub acted_slots : free_slots w ≡ free_slots v
  acted_slots n = total (λ i. still_free v target i (spot_at v i) (spot_at w i) (acted.changes i) n) (acted.slots n)

-- what is held, with principals who are held, is a graph below each serial that is above all of it
pub held_graph : {v : Stored} → IsStore v → (next : ℕ) (names : List Member) (retired : finset.FinSet nat_cmp) → ((x : ℕ) → IsHeldIn v x → x < next) → IsRoll (vertices v) next names retired
    → IsGraph (record (held v next) { names = names; retired = retired })
held_graph store next names retired below roll = record { below_next = below; from_vertex = store.from_held; to_vertex = store.to_held; distinct = store.distinct; roll = roll }

-- after a collector step, what is held, with the principals, is still a part of the graph: the same, or once the rest was
-- parked what is black
phase_follows : (size : ℕ) (g h : Stage) (ended : Bool) → Follows size g h ended → (ended ≡ true → phase_in h ≡ Idle) × (phase_in g ≡ Idle → ended ≡ false)
phase_follows size g h ended f = grind arith

module _ {v w : Stored} {count : ℕ} {ended : Bool} (c : Collected v w count ended) where
  -- the step that ends a cycle leaves the collector idle, and one that begins a cycle ends none
  pub ended_idle : ended ≡ true → phase w ≡ Idle
  ended_idle = (phase_follows (slot_count v) v.stage w.stage ended c.step.phases).0

  pub idle_ends_none : phase v ≡ Idle → ended ≡ false
  idle_ends_none = (phase_follows (slot_count v) v.stage w.stage ended c.step.phases).1

  -- what is parked then was parked, or held
  pub collected_parked : IsStore v → (x : ℕ) → IsParkedIn w x → IsParkedIn v x ⊎ IsHeldIn v x
  collected_parked store x (i, dark, named) = by (spot_at v i) refl (turns_name (shown_body v) v.stage i x (spot_at v i) (spot_at w i) (c.step.turns i) named) where
    by : (o : Option Spot) → spot_at v i ≡ o → spot_serial o ≡ Some x → IsParkedIn v x ⊎ IsHeldIn v x
    by None at was = absurd (cc was)
    by (Some t) at was = of (keeps v.stage i t.colour) refl where
      of : (b : Bool) → keeps v.stage i t.colour ≡ b → IsParkedIn v x ⊎ IsHeldIn v x
      of true e = inr (store.placed i x (ap (λ o. kept_serial (seen v.stage i o)) at ∙ rw e was))
      of false e = inl (i, (t, at, e), ap spot_serial at ∙ was)

  module _ (next : ℕ) (names : List Member) (retired : finset.FinSet nat_cmp) (G : Protection) (part : IsPart G (record (held v next) { names = names; retired = retired })) (store_v : IsStore v) (store_w : IsStore w) where
    once_v : Once v
    once_v = once_so v store_v.once

    once_w : Once w
    once_w = once_so w store_w.once

    was_kept : (i : ℕ) (k : Kept) → kept w i ≡ Some k → kept v i ≡ Some k
    was_kept i k e = marked.held_back (shown_body v) (shown_body w) v.stage w.stage ended (sane v store_v) (sane w store_w) c.step i k e

    vertex_same : (x : ℕ) → IsHeldIn w x → vertex (held v next) x ≡ vertex (held w next) x
    vertex_same x h =
        let r = held_kept w x h in
        subst (λ y. vertex (held v next) y ≡ vertex (held w next) y) r.3 (vertex_found v next r.0 r.1 once_v (was_kept r.0 r.1 r.2) ∙ sym (vertex_found w next r.0 r.1 once_w r.2))

    labels : (x y : ℕ) → IsHeldIn w x → label G x y ≡ label (held w next) x y
    labels x y h =
        let r = held_kept w x h in
        part.labels x y (ap is_some (vertex_same x h) ∙ h) ∙ named_label (held v next) names retired x y
        ∙ subst (λ z. label (held v next) z y ≡ label (held w next) z y) r.3 (label_same v w next r.0 r.1 once_v once_w (was_kept r.0 r.1 r.2) r.2 y)

    pub collected_part : IsPart G (record (held w next) { names = names; retired = retired })
    collected_part = record {
      vertices = λ x h. part.vertices x (ap is_some (vertex_same x h) ∙ h) ∙ vertex_same x h;
      labels = λ x y h. labels x y h ∙ sym (named_label (held w next) names retired x y);
      closed = λ x y h e. let there = edge_in w next x y (ap is_none (sym (labels x y h)) ∙ e) in store_w.to_held (record { from = x; right = there.0; to = y }) there.1;
      names = part.names;
      retired = part.retired;
    }

-- what an opened store holds
module _ {v : Stored} {G : Protection} {all_slots all_cells : ℕ} (o : Opened v G all_slots all_cells) where
  pub opened_graph : record (held v G.next) { names = G.names; retired = G.retired } ≡ G
  opened_graph i = record { vertices = o.vertices i; next = G.next; triples = o.triples i; names = G.names; retired = G.retired }

  pub opened_subjects : G.vertices ≡ subjects o.count
  opened_subjects = sym o.vertices ∙ o.opens.vertices

  pub opened_phase : phase v ≡ Idle
  opened_phase = ap (λ s. phase_in s) o.opens.stage
