-- Definitions in other words.
use Rattle.std.proofs.Common.{◌≡◌, ◌<◌, ◌≤◌, ℕ, ◌+◌, Bool, true, false, cond, List, [], ◌∷◌, length, Option, Some, None, is_some, ltb, append-nil, refl, sym, ap, subst, ◌∙◌, ◌⊎◌, ◌↔◌, ◌++◌, inl, inr, arith}
use Rattle.std.proofs.lemmas.Bool.{ltb-true, ltb-false}
use Rattle.tg_graph.specs.Promise.EachCommand.{EachDoesSo, EachIsAllowedSo, MayUse}
use Rattle.tg_graph.specs.Promise.Fullness.{Limits, MayBeFull}
use Rattle.tg_graph.specs.Promise.Protection.{IsSubject, IsVertex, Live, Protection, is_active}
use Rattle.tg_graph.specs.Promise.Rules.{Allowed, is_create, last_serial, next_graph, reply_of}
use Rattle.tg_graph.proofs.VertexLemmas.{IsVertex-from_kind}
use Rattle.tg_rights.specs.declared.kind.Kind.TheVariants as kind
use Rattle.tg_rights.specs.declared.command.Command.{Command}
use Rattle.tg_rights.specs.declared.command.Command.TheVariants as command
use Rattle.tg_rights.specs.declared.outcome.Cause.TheVariants as cause
use Rattle.tg_rights.specs.declared.outcome.Outcome.TheVariants as outcome
use Rattle.tg_rights.specs.declared.outcome.Reply.{Reply}
use Rattle.tg_rights.specs.declared.outcome.Reply.TheVariants as replies
use Rattle.tg_rights.specs.declared.outcome.Which.{Which}
use Rattle.tg_rights.specs.declared.outcome.Which.TheVariants as which
use Rattle.tg_rights.specs.Promise.Letters.{read}
use Rattle.tg_collect.specs.Promise.Readings.{cycle_bound, free_slots}
use Rattle.tg_vault.specs.declared.entry.Entry.{Entry}
use Rattle.tg_vault.specs.declared.event.SeatFault.TheVariants as seat_fault
use Rattle.tg_vault.specs.declared.event.Event.TheVariants as event
use Rattle.tg_vault.specs.declared.event.Answer.TheVariants as answer
use Rattle.tg_vault.specs.Promise.Agreement.{IsOfGraph}
use Rattle.tg_vault.specs.Promise.Headline.{AddsAsked, EachEntry, IsCarriedOutWhenAllowed, IsDenialNamed, replies_from}
use Rattle.tg_vault.specs.Promise.History.{MayAsk, WasPrincipal, graph_of}
use Rattle.tg_vault.specs.Promise.World.{Enters, IsLeastInUse, Moment, Step, acting, actor_at, at_seat, has_target, in_use, no_seat}
use Rattle.tg_vault.specs.Promise.Contents.{Contents, HasSlot, IsRoot, graph_now, moment}
use Rattle.tg_vault.specs.Promise.Cycles.{notes_in}
use Rattle.tg_vault.specs.Promise.Room.{IsRoom}
use Rattle.tg_vault.specs.Promise.Meanings.{ActorsHaveMeanings, AnswersHaveMeanings, CyclesAreShort, EightStepsAreEnough, EntryMeans, FreshHasMeaning, FullHasMeaning, HeadlineHasMeaning, HellosLeaveRoom, LiveIsNotParked, OneLeastSeat, OneRoom, OneScene, ReadsTellNoMore, RebasedHasMeaning}
use Rattle.tg_vault.proofs.AddedLemmas.{runs_add}

hello_free : (a b c : Bool) → cond a (Some seat_fault.NoSeat) (cond b (Some seat_fault.Bound) (cond c None (Some seat_fault.NoPrincipal))) ≡ None → (a ≡ false) × (b ≡ false)
hello_free true b c e = absurd (cc e)
hello_free false true c e = absurd (cc e)
hello_free false false c e = (refl, refl)

bye_free : (a b c : Bool) → cond a (Some seat_fault.NoSeat) (cond b (cond c (Some seat_fault.Busy) None) (Some seat_fault.NoActor)) ≡ None → (a ≡ false) × (b ≡ true) × (c ≡ false)
bye_free true b c e = absurd (cc e)
bye_free false true true e = absurd (cc e)
bye_free false true false e = (refl, refl, refl)
bye_free false false c e = absurd (cc e)

no_slot : (limits : Limits) (m : Moment) (seat actor : ℕ) (c : Command) (number : ℕ) (reply : Reply) (n : Moment) → Step limits m (event.Ask seat c) (answer.Asked number reply) n → actor_at m.world seat ≡ Some actor
    → Allowed m.world.graph actor c → is_create actor c ≡ true → m.world.graph.next ≤ last_serial → m.world.used ≡ limits.slots → reply ≡ replies.Full which.Slots
no_slot limits m seat actor c number reply n h is allowed create left used =
    let some : Some h.2.0 ≡ Some actor = sym h.2.1 ∙ is in
    let same : h.2.0 ≡ actor = cc some in
    let enters : Enters limits m seat actor c reply n = subst (λ x. Enters limits m seat x c reply n) same h.2.2 in
    let full : enters.outcome ≡ outcome.Full which.Slots = enters.exact.1 (create, allowed, left, used) in
    enters.replied ∙ ap (reply_of m.world.graph actor c) full

pub answers_mean : AnswersHaveMeanings
answers_mean limits m n seat = record {
  hello = λ name x h. (let free = hello_free (no_seat m.world seat) (in_use m.world seat) _ h.0 in (free.0, free.1, h.1));
  bye = λ h. bye_free (no_seat m.world seat) (in_use m.world seat) (has_target m.world seat) h.0;
  asked = λ c number reply h. (
    record { seat = seat; actor = h.2.0; command = c; outcome = h.2.2.outcome },
    ap (λ (k : Moment). k.history) h.2.2.left,
    h.1,
    h.2.1,
    h.2.2.replied,
  );
  no_slot = λ actor c number reply h is allowed create left used. no_slot limits m seat actor c number reply n h is allowed create left used;
  shaded = λ target h. sym h.1;
  noted = λ note h. ap (λ (k : Moment). k.world.used + note.freed) h.2 ∙ sym h.1;
}

no_lower : (seats : List (Option ℕ)) (a b : ℕ) → IsLeastInUse seats a → IsLeastInUse seats b → a < b → ⊥
no_lower seats a b first second lower =
    let some : true ≡ false = sym first.taken ∙ ap is_some (second.least a lower) in absurd (cc some)

pub one_least : OneLeastSeat
one_least seats a b first second = by (ltb a b) (ltb b a) refl refl where
  by : (c d : Bool) → ltb a b ≡ c → ltb b a ≡ d → a ≡ b
  by true d lower other = absurd (no_lower seats a b first second (ltb-true a b lower))
  by false true lower other = absurd (no_lower seats b a second first (ltb-true b a other))
  by false false lower other = let over : b ≤ a = ltb-false a b lower in let under : a ≤ b = ltb-false b a other in omega (arith, over, under)

asks_first : (G : Protection) (seat x : ℕ) → MayAsk G [] seat x → is_active G x ≡ true
asks_first G seat x (inl active) = active
asks_first G seat x (inr (inl retired)) = absurd retired.1
asks_first G seat x (inr (inr assumed)) = absurd assumed.1

asks_next : (G : Protection) (e : Entry) (seat x : ℕ) → (seat ≡ e.seat → ⊥) → MayAsk G (e ∷ []) seat x → WasPrincipal G (e ∷ []) x
asks_next G e seat x other (inl active) = inl active
asks_next G e seat x other (inr (inl retired)) = inr retired
asks_next G e seat x other (inr (inr assumed)) = elim assumed.1 [
  | inl same ↦ absurd (other (sym assumed.2 ∙ ap (λ (d : Entry). d.seat) same))
  | inr none ↦ absurd none
]

pub actors_mean : ActorsHaveMeanings
actors_mean limits G e = record {
  first = λ es H legal. asks_first G e.seat e.actor legal.graphs.1.0;
  next = λ f es H legal other.
      let asks = legal.graphs.2.1.0 in
      let here = legal.graphs.1.2 in
      subst (λ K. WasPrincipal K (e ∷ []) f.actor) here (asks_next legal.graphs.0 e f.seat f.actor (λ same. other same) asks);
}

pub live_is_not_parked : LiveIsNotParked
live_is_not_parked v fits x live parked = fits.apart x (fits.live x live) parked

pub full_means : FullHasMeaning
full_means old new fits x = record {
  slots = λ e. (let used = ((x.full which.Slots).0 e).1 in let sum = fits.slots in omega (arith, sum, used.2));
  cells = λ e. (let used = ((x.full which.Cells).0 e).1 in let many = fits.many_cells in omega (arith, many, used.2));
  no_slot = λ allowed create left none. (x.full which.Slots).1 (allowed, (create, left, none));
}

pub fresh_means : FreshHasMeaning
fresh_means c v fresh = record {
  actors = λ seat. ap (λ a. acting a (at_seat v.seats seat)) (fresh.alone seat);
  complete = λ w es note answers complete two.
      let done = complete [] answers note refl fresh.phase (omega (arith, two)) in
      let here : done.0 ≡ moment v = done.1.before in
      subst (λ (m : Moment). (x : ℕ) → HasSlot w x → Live m.world.graph (IsRoot m.world) x ⊎ (m.world.graph.next ≤ x)) here done.2;
}

pub eight_steps : EightStepsAreEnough
eight_steps old answers bounded is many =
    bounded [] answers [] (sym (append-nil answers)) (subst (λ b. b ≤ length (notes_in answers)) (sym (ap (λ (l : Limits). cycle_bound l.slots l.cells) is)) many)

pub cycles_are_short : CyclesAreShort
cycles_are_short old new swept cycle is = subst (λ b. swept.steps ≤ b) (ap (λ (l : Limits). cycle_bound l.slots l.cells) is) cycle.few

pub rebased_means : RebasedHasMeaning
rebased_means v w = record {
  dropped = λ count past r handed. ap length handed.0 ∙ sym r.1;
  rights = λ r x y active. (let agree = r.agrees x active in agree.labels [] x y (vertex_of (graph_now v) x agree.subject, refl));
  replies = λ r e es H legal. (r.legal (e ∷ es) H legal).replies.0;
  no_memory = λ r. ap (graph_of w.opening) r.2 ∙ ap (λ G. graph_of G v.history) r.3;
} where
  vertex_of : (G : Protection) (x : ℕ) → IsSubject G x → IsVertex G x
  vertex_of G x s = IsVertex-from_kind G x kind.Subject s

pub one_room : OneRoom
one_room v r s a b = λ i. record {
  slots = (a.slots ∙ sym b.slots) i;
  free_slots = (a.free_slots ∙ sym b.free_slots) i;
  cells = (a.cells ∙ sym b.cells) i;
  free_cells = (a.free_cells ∙ sym b.free_cells) i;
}

pub one_scene : OneScene
one_scene v s t a b = (
  a.names ∙ sym b.names,
  a.seats ∙ sym b.seats,
  a.free_slots ∙ sym b.free_slots,
  a.free_cells ∙ sym b.free_cells,
  a.phase ∙ sym b.phase,
)

pub hellos_leave_room : HellosLeaveRoom
hellos_leave_room old new seat name r room = record {
  granted = λ x same limits. record {
    slots = room.slots ∙ ap (λ (l : Limits). l.slots) (sym limits);
    free_slots = room.free_slots ∙ ap (λ s. free_slots s) (sym same);
    cells = room.cells ∙ ap (λ (l : Limits). l.cells) (sym limits);
    free_cells = room.free_cells ∙ ap (λ s. s.free_cells) (sym same);
  };
  refused = λ fault same. subst (λ (v : Contents). IsRoom v r) (sym same) room;
}

-- what holds of each entry holds of one, in the graph that those before it leave
at_entry : (P : Protection → Entry → Type 0) (G : Protection) (front back : List Entry) (e : Entry) → EachEntry P G (front ++ e ∷ back) → P (graph_of G front) e
at_entry P G [] back e each = each.0
at_entry P G (f ∷ front) back e each = at_entry P (next_graph G f.actor f.command f.outcome) front back e each.1

heads : (p q a b : ℕ × Reply) (xs ys : List (ℕ × Reply)) → p ∷ q ∷ xs ≡ a ∷ b ∷ ys → (p ≡ a) × (q ≡ b)
heads p q a b xs ys is = (cc is, cc is)

-- a read is never full
read_not_full : (limits : Limits) (G : Protection) (x over : ℕ) (w : Which) → MayBeFull limits G x (command.Read over) w → ⊥
read_not_full limits G x over which.Serials may = absurd (cc may.0)
read_not_full limits G x over which.Slots may = absurd (cc may.0)
read_not_full limits G x over which.Cells may = may.0

module _ (allowed : EachIsAllowedSo) (does : EachDoesSo) where
  reads : (limits : Limits) (G : Protection) (e : Entry) (over : ℕ) → IsCarriedOutWhenAllowed limits G e → e.command ≡ command.Read over → (e.outcome ≡ outcome.Allowed) ↔ MayUse G e.actor read over
  reads limits G e over carried is = (λ done. so.0 (subst (λ c. Allowed G e.actor c) is (carried.only done)), λ may. by (carried.unless_full (subst (λ c. Allowed G e.actor c) (sym is) (so.1 may)))) where
    so : Allowed G e.actor (command.Read over) ↔ MayUse G e.actor read over
    so = (allowed G e.actor).reads over

    by : (e.outcome ≡ outcome.Allowed) ⊎ ((w : Which) × (e.outcome ≡ outcome.Full w)) → e.outcome ≡ outcome.Allowed
    by (inl done) = done
    by (inr full) = absurd (read_not_full limits G e.actor over full.0 (subst (λ c. MayBeFull limits G e.actor c full.0) is (carried.full full.0 full.1).1))

  entry_means : (limits : Limits) (G : Protection) (e : Entry) → IsCarriedOutWhenAllowed limits G e → IsDenialNamed G e → EntryMeans G e
  entry_means limits G e carried denied = record {
    reads = λ over is. reads limits G e over carried is;
    missing = λ rule β y z is r lacks. (does G e.actor).lacks e.command β y z ((denied rule (cause.Missing β y z)).0 is).1 r lacks;
  }

  pub headline_means : HeadlineHasMeaning
  headline_means old es answers new h = record {
    entries = λ front back e is. entry_means new.limits (graph_of new.opening front) e
        (at_entry (IsCarriedOutWhenAllowed new.limits) new.opening front back e (subst (EachEntry (IsCarriedOutWhenAllowed new.limits) new.opening) is h.carried_out))
        (at_entry IsDenialNamed new.opening front back e (subst (EachEntry IsDenialNamed new.opening) is h.denied));
    numbers = λ a b p q rest is. told (graph_now old) (length old.history) new_entries.added a b p q rest (sym new_entries.asked ∙ is);
  } where
    new_entries : AddsAsked old answers new
    new_entries = runs_add old es answers new h.run

    told : (G : Protection) (n : ℕ) (added : List Entry) (a b : ℕ) (p q : Reply) (rest : List (ℕ × Reply)) → replies_from G n added ≡ (a, p) ∷ (b, q) ∷ rest → (a ≡ n) × (b ≡ a + 1)
    told G n [] a b p q rest is = absurd (cc is)
    told G n (e ∷ []) a b p q rest is = absurd (cc is)
    told G n (e ∷ f ∷ es) a b p q rest is =
        let both = heads (n, _) (n + 1, _) (a, p) (b, q) _ rest is in
        let same : n ≡ a = ap (λ (r : ℕ × Reply). r.0) both.0 in
        let next : n + 1 ≡ b = ap (λ (r : ℕ × Reply). r.0) both.1 in
        (sym same, omega (arith, same, next))

pub reads_tell_no_more : ReadsTellNoMore
reads_tell_no_more old new answer same over is done H graph agrees =
    let of_graph : IsOfGraph same.entry.actor same.entry.command same.entry.outcome = rw (done, is) refl in
    same.reply H graph agrees of_graph ∙ rw (done, is) refl
