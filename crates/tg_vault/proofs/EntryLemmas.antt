-- A vault with one more entry.
use Rattle.std.proofs.Common.{◌≡◌, ℕ, ◌+◌, ◌-◌, ◌<◌, ◌≤◌, List, [], ◌∷◌, ◌++◌, refl, sym, ap, subst, ◌∙◌, ◌⊎◌, inl, inr, Some, None, is_some, Bool, true, false, cond, arith}
use Rattle.std.specs.Prelude.{Option}
use Rattle.std.proofs.lemmas.List.Elements.{All-append, All-cons, All-nil}
use Rattle.tg_lists.proofs.MembershipLemmas.{contains_left, contains_right}
use Rattle.tg_rights.specs.Promise.Letters.{joined, without}
use Rattle.tg_rights.specs.declared.command.Command.{Command}
use Rattle.tg_rights.specs.declared.command.Command.TheVariants as command
use Rattle.tg_rights.specs.declared.outcome.Outcome.{Outcome}
use Rattle.tg_rights.specs.declared.outcome.Outcome.TheVariants as outcome
use Rattle.tg_graph.specs.Promise.Protection.{Protection, IsGraph, IsVertex, has_retired, Agree, IsPart, Live, Reaches}
use Rattle.tg_graph.specs.Promise.Terms as effect
use Rattle.tg_graph.specs.Promise.Terms.{Does, terms}
use Rattle.tg_graph.specs.Promise.Fullness.{Permitted, edges_at, vertex_count, edge_count}
use Rattle.tg_graph.specs.Promise.Rules.{Allowed, is_create, next_graph, reply_of}
use Rattle.tg_graph.proofs.OutcomesAgreeLemmas.{Judged-agrees, reaches_on}
use Rattle.tg_graph.proofs.ProtectionLemmas.{Entitled, edge_to, entitled}
use Rattle.tg_graph.proofs.PartsStayLemmas.{part_stays}
use Rattle.tg_graph.proofs.RepliesAgreeLemmas.{same_reply}
use Rattle.tg_graph.proofs.VertexLemmas.{IsVertex-from_kind}
use Rattle.tg_vault.specs.declared.entry.Entry.{Entry}
use Rattle.tg_collect.specs.Promise.Readings.{IsRootIn, IsParkedIn, agents, pending, free_slots}
use Rattle.tg_collect.specs.Promise.Views.{IsStore}
use Rattle.tg_collect.proofs.RunLemmas.{acted_parked}
use Rattle.tg_vault.specs.Promise.History.{MayAsk, WasAssumed, WasPrincipal}
use Rattle.tg_vault.specs.Inner.Seen.{graph_seen, seen_in, set_of}
use Rattle.tg_vault.specs.Promise.World.{acting, actor_at, agents_after, at_seat, in_use, new_target, target_of, with_pending, slots_taken, entered, Enters}
use Rattle.tg_vault.specs.Promise.Contents.{Contents, IsVault, graph_now, held_now, moment, AreTaken, Ties, IsExact}
use Rattle.tg_vault.specs.Inner.Fits.{IsTied}
use Rattle.tg_vault.specs.Promise.StoreSteps.{SessionStep}
use Rattle.tg_vault.specs.Promise.Agreement.{SameForAgreeing, JudgedAlike, IsOfGraph}
use Rattle.tg_vault.specs.Inner.CarriedOut.{Answered}
use Rattle.tg_vault.specs.declared.carry_out.State.{State}
use Rattle.tg_vault.specs.Inner.CarriedOut.{CarriedIn, Decided, CellsMoved, EdgeMoves, new_serial}
use Rattle.tg_vault.proofs.HistoryLemmas.{along_more, graph_of_more, was_stays}
use Rattle.tg_vault.proofs.DecidedLemmas.{IsActor, actor_held, acts_here, decided_permitted, decided_so, entitled_held, exact_full, exact_slots, graph_is, held_is, replied_so, retired_decided}
use Rattle.tg_vault.proofs.SeatLemmas.{agent_after, target_after}
use Rattle.tg_vault.proofs.RetiredLemmas.{retired_leaves}
use Rattle.tg_vault.proofs.CountLemmas.{Carried, edges_counted, next_same, target_same, vertex_stays, vertices_counted}

judged_alike : (G K : Protection) (f g x : ℕ) (c : Command) (o : Outcome) → Agree G K x → Decided G f g x c o → JudgedAlike K x c o
judged_alike G K f g x c outcome.Allowed agree d = Judged-agrees G K x c outcome.Allowed agree d.0
judged_alike G K f g x c (outcome.Denied rule cause) agree d = Judged-agrees G K x c (outcome.Denied rule cause) agree d
judged_alike G K f g x c (outcome.Full w) agree d = Judged-agrees G K x c outcome.Allowed agree d.0

alike : (G K : Protection) (f g x : ℕ) (c : Command) (o : Outcome) → IsGraph G → IsGraph K → Agree G K x → Decided G f g x c o → IsOfGraph x c o → reply_of G x c o ≡ reply_of K x c o
alike G K f g x c outcome.Allowed in_G in_K agree d other = same_reply G K x agree c in_G in_K d.0 other
alike G K f g x c (outcome.Denied rule cause) in_G in_K agree d other = refl
alike G K f g x c (outcome.Full w) in_G in_K agree d other = absurd other

allowed_of : (G : Protection) (f g x : ℕ) (c : Command) (o : Outcome) → Decided G f g x c o → o ≡ outcome.Allowed → Allowed G x c
allowed_of G f g x c outcome.Allowed d is = d.0
allowed_of G f g x c _ d is = absurd (cc is)

-- a target is reached from the actor, or new
module _ (H : Protection) (root : ℕ → Type 0) (x : ℕ) (is_root : root x) (x_in : IsVertex H x) where
  here : Reaches H x x
  here = ([], (x_in, refl))

  done_target : (d : Does) → Entitled H (Reaches H x) (reaches_on H x) x here d → (y : ℕ) → new_target H d ≡ Some y → Live H root y ⊎ (H.next ≤ y)
  done_target (effect.Joins from α to) h y is = let same : to ≡ y = cc is in inl (x, is_root, subst (Reaches H x) same h.1)
  done_target (effect.Makes k α name) h y is = let same : H.next ≡ y = cc is in inr (omega arith)
  done_target (effect.Acts (Some agent)) h y is = let same : agent ≡ y = cc is in inl (x, is_root, subst (Reaches H x) same h.0)
  done_target _ h y is = absurd (cc is)

  target_live : (c : Command) → Allowed H x c → (y : ℕ) → new_target H (terms x c).does ≡ Some y → Live H root y ⊎ (H.next ≤ y)
  target_live c a y is = done_target (terms x c).does (entitled H (Reaches H x) (reaches_on H x) x here c a) y is

new_is_next : (next x : ℕ) (c : Command) (o : Outcome) (y : ℕ) → new_serial next x c o ≡ Some y → next ≤ y
new_is_next next x c outcome.Allowed y is = by (is_create x c) is where
  by : (b : Bool) → cond b (Some next) None ≡ Some y → next ≤ y
  by true is = let same : next ≡ y = cc is in omega arith
  by false is = absurd (cc is)
new_is_next next x c _ y is = absurd (cc is)

-- the labels that change are the same in both
module _ (v : Contents) (j : Ties v) (store : IsStore v.store) (x : ℕ) (before after : ℕ) where
  done_moves : (actor : IsActor v x) (d : Does) → Entitled (held_now v) (IsVertex (held_now v)) (λ w z k e. edge_to (held_now v) (held_is v j store) w z e) x (actor_held v j store x actor) d →
      EdgeMoves (held_now v) before after x d → EdgeMoves (graph_now v) before after x d
  done_moves actor (effect.Joins from α to) h moved = subst (λ l. after + edges_at (joined l α) ≡ before + edges_at l) (sym (j.part.labels from to h.0)) moved
  done_moves actor (effect.Drops α over) h moved = subst (λ l. after + edges_at (without l α) ≡ before + edges_at l) (sym (j.part.labels x over (actor_held v j store x actor))) moved
  done_moves actor _ h moved = moved

  moved_so : (c : Command) (o : Outcome) → (o ≡ outcome.Allowed → Allowed (held_now v) x c) → (Allowed (held_now v) x c → IsActor v x ⊎ (c ≡ command.Leave)) →
      CellsMoved (held_now v) before after x c o → CellsMoved (graph_now v) before after x c o
  moved_so c outcome.Allowed a acts moved = elim (acts (a refl)) [
    | inl actor ↦ done_moves actor (terms x c).does (entitled_held v j store x actor c (a refl)) moved
    | inr leaves ↦ subst (λ k. CellsMoved (held_now v) before after x k outcome.Allowed → CellsMoved (graph_now v) before after x k outcome.Allowed) (sym leaves) (λ (same : after ≡ before). same) moved
  ]
  moved_so c _ a acts moved = moved

-- each agent was assumed
assumed_after : (earlier : List Entry) (e : Entry) (agents : List (Option ℕ)) → ((k y : ℕ) → at_seat agents k ≡ Some y → WasAssumed earlier k y) → (k y : ℕ) → at_seat (agents_after agents e.seat e.actor e.command e.outcome) k ≡ Some y →
    WasAssumed (earlier ++ e ∷ []) k y
assumed_after earlier e agents were k y at = elim (agent_after agents e.seat e.actor e.command k y e.outcome at) [
  | inl (there, assumes, allowed) ↦ (e, contains_right earlier (e ∷ []) e (inl refl), sym there, assumes, allowed)
  | inr before ↦ let was = were k y before in (was.0, contains_left earlier (e ∷ []) was.0 was.1, was.2, was.3, was.4)
]

-- whoever acts has a seat that is in use
acts_taken : (v : Contents) → Ties v → (seat x : ℕ) → actor_at (moment v).world seat ≡ Some x → in_use (moment v).world seat ≡ true
acts_taken v j seat x acts = by (at_seat (agents v.store) seat) refl acts where
  by : (a : Option ℕ) → at_seat (agents v.store) seat ≡ a → acting a (at_seat v.seats seat) ≡ Some x → in_use (moment v).world seat ≡ true
  by None none at = ap is_some at
  by (Some agent) here is = j.taken seat agent (inr here)

-- what is free is at most all
pub free_few : (v : Contents) → Ties v → IsStore v.store → free_slots v.store ≤ v.limits.slots
free_few v j store = let all = store.slots 0 in let many = j.slots in omega arith

-- a command of the actor at a seat was carried out in the store of a vault, in the list of its principals and among those
-- who have retired
pub record Serving (v : Contents) (seat x : ℕ) (c : Command) (answer : Answered) (new : State) : Type 0 where
  pub joins : Ties v
  pub store : IsStore v.store
  pub within : seat < 64
  pub acts : actor_at (moment v).world seat ≡ Some x
  pub carried : CarriedIn (held_now v) (seen_in new) v.store new.store seat x c answer

module _ (v : Contents) (seat x : ℕ) (c : Command) (answer : Answered) (new : State) (s : Serving v seat x c answer new) where
  abbrev j : Ties v
  j = s.joins

  abbrev G : Protection
  G = graph_now v

  abbrev H : Protection
  H = held_now v

  abbrev o : Outcome
  o = answer.outcome

  abbrev pub e : Entry
  e = record { seat = seat; actor = x; command = c; outcome = o }

  -- the vault with the entry
  abbrev pub left : Contents
  left = record v { store = new.store; names = new.names; history = v.history ++ e ∷ [] }

  who : MayAsk G v.history seat x × (IsActor v x ⊎ (has_retired G x ≡ true))
  who = acts_here v j s.store seat x s.acts

  -- who has a command carried out is a root and a subject, or leaves
  acts : Allowed H x c → IsActor v x ⊎ (c ≡ command.Leave)
  acts a = elim who.1 [ inl actor ↦ inl actor | inr retired ↦ inr (retired_leaves H x c retired a) ]

  in_G : IsGraph G
  in_G = graph_is v j s.store

  decided : Decided G (free_slots v.store) v.store.free_cells x c o
  decided = elim who.1 [
    | inl actor ↦ decided_so v j s.store x actor c (free_slots v.store) v.store.free_cells o s.carried.decided
    | inr retired ↦ retired_decided G H (free_slots v.store) v.store.free_cells x c o retired retired s.carried.decided
  ]

  allowed : o ≡ outcome.Allowed → Allowed G x c
  allowed = allowed_of G (free_slots v.store) v.store.free_cells x c o decided

  allowed_held : o ≡ outcome.Allowed → Allowed H x c
  allowed_held = allowed_of H (free_slots v.store) v.store.free_cells x c o s.carried.decided

  carried : Carried G in_G x c o
  carried is = elim (acts (allowed_held is)) [ inl actor ↦ inl (IsVertex-from_kind G x _ actor.subject, allowed is) | inr leaves ↦ inr leaves ]

  permitted : Permitted v.limits G x c o
  permitted = decided_permitted v.limits G (free_slots v.store) v.store.free_cells x c o j.many_slots j.many_cells decided

  replied : answer.reply ≡ reply_of G x c o
  replied = s.carried.replied ∙ by o allowed_held where
    by : (p : Outcome) → (p ≡ outcome.Allowed → Allowed H x c) → reply_of H x c p ≡ reply_of G x c p
    by outcome.Allowed a = elim (acts (a refl)) [
      | inl actor ↦ replied_so v j s.store x actor c (a refl)
      | inr leaves ↦ subst (λ k. reply_of H x k outcome.Allowed ≡ reply_of G x k outcome.Allowed) (sym leaves) refl
    ]
    by _ a = refl

  graph_left : graph_now left ≡ next_graph G x c o
  graph_left = graph_of_more v.opening v.history e

  pub after_is : new.next ≡ (graph_now left).next
  after_is = ap (λ (K : Protection). K.next) s.carried.graph ∙ next_same H G x c o refl ∙ sym (ap (λ (K : Protection). K.next) graph_left)

  target_is : target_of H x c o ≡ target_of G x c o
  target_is = target_same H G x c o refl

  pub moment_left : moment left ≡ entered (moment v) e
  moment_left = λ i. record {
    world = record {
      graph = graph_left i;
      seats = v.seats;
      agents = s.carried.agents i;
      pending = (s.carried.pending ∙ ap (with_pending (pending v.store) seat) target_is) i;
      used = used i;
    };
    history = v.history ++ e ∷ [];
  } where
    used : v.limits.slots - free_slots new.store ≡ v.limits.slots - free_slots v.store + slots_taken x c o
    used = let few = free_few v j s.store in let moved = s.carried.slots in omega arith

  pub serving_enters : Enters v.limits (moment v) seat x c answer.reply (moment left)
  serving_enters = record {
    outcome = o;
    permitted = permitted;
    exact = exact_slots v.limits (moment v).world (free_slots v.store) v.store.free_cells x c o refl (free_few v j s.store) decided;
    replied = replied;
    left = moment_left;
  }

  pub serving_same : SameForAgreeing v left answer.reply
  serving_same = record {
    entry = e;
    added = refl;
    outcome = λ K agree. judged_alike G K (free_slots v.store) v.store.free_cells x c o agree decided;
    reply = λ K in_K agree other. replied ∙ alike G K (free_slots v.store) v.store.free_cells x c o in_G in_K agree decided other;
  }

  pub serving_exact : IsExact v left
  serving_exact = record { entry = e; added = refl; full = λ w. exact_full G (free_slots v.store) v.store.free_cells x c o w decided }

  pub serving_acts : SessionStep v left
  serving_acts = record {
    came = new_serial (graph_now v).next x c o;
    target = target_of H x c o;
    acted = s.carried.acted;
    next = λ y is. new_is_next (graph_now v).next x c o y is;
    live = λ y is. live o allowed_held y is;
  } where
    live : (p : Outcome) → (p ≡ outcome.Allowed → Allowed H x c) → (y : ℕ) → target_of H x c p ≡ Some y → Live H (IsRootIn v.store) y ⊎ (H.next ≤ y)
    live outcome.Allowed a y is = elim (acts (a refl)) [
      | inl actor ↦ target_live H (IsRootIn v.store) x actor.root (actor_held v j s.store x actor) c (a refl) y is
      | inr leaves ↦ absurd (cc (sym (ap (λ k. new_target H (terms x k).does) leaves) ∙ is))
    ]
    live _ a y is = absurd (cc is)

  still_vault : IsVault left
  still_vault = record {
    legal = record { graphs = along_more v.limits [] v.opening v.history G e (graph_now left) j.vault.legal.graphs (who.0, permitted, graph_left) };
    sat = All-append (λ (e : Entry). e.seat < 64) v.history (e ∷ []) j.vault.sat (All-cons (λ (e : Entry). e.seat < 64) e [] s.within (All-nil _));
    seats = j.vault.seats;
    seated = λ k y at. subst (λ (K : Protection). WasPrincipal K (v.history ++ e ∷ []) y) (sym graph_left) (was_stays G v.history e y (j.vault.seated k y at));
  }

  part_next : IsPart (next_graph G x c o) (next_graph H x c o)
  part_next = by o allowed allowed_held where
    by : (p : Outcome) → (p ≡ outcome.Allowed → Allowed G x c) → (p ≡ outcome.Allowed → Allowed H x c) → IsPart (next_graph G x c p) (next_graph H x c p)
    by outcome.Allowed a there = elim (acts (there refl)) [
      | inl actor ↦ part_stays G H j.part x c in_G (held_is v j s.store) refl (actor_held v j s.store x actor) (IsVertex-from_kind G x _ actor.subject) (a refl)
      | inr leaves ↦ subst (λ k. IsPart (next_graph G x k outcome.Allowed) (next_graph H x k outcome.Allowed)) (sym leaves) j.part
    ]
    by _ a there = j.part

  names_are : new.names ≡ (graph_now left).names
  names_are = ap (λ (K : Protection). K.names) s.carried.graph ∙ sym part_next.names ∙ sym (ap (λ (K : Protection). K.names) graph_left)

  retired_are : set_of new.retired.keys ≡ (graph_now left).retired
  retired_are = ap (λ (K : Protection). K.retired) s.carried.graph ∙ sym part_next.retired ∙ sym (ap (λ (K : Protection). K.retired) graph_left)

  held_left : next_graph H x c o ≡ held_now left
  held_left = sym s.carried.graph ∙ (λ i. graph_seen new.store (after_is i) (names_are i) (retired_are i))

  still_part : IsPart (graph_now left) (held_now left)
  still_part = subst (λ K. IsPart (graph_now left) K) held_left (subst (λ K. IsPart K (next_graph H x c o)) (sym graph_left) part_next)

  still_taken : AreTaken (moment left).world
  still_taken k y of = elim of [
    | inl target ↦ elim (target_after (pending v.store) seat (target_of H x c o) k y (sym (ap (λ table. at_seat table k) s.carried.pending) ∙ target)) [
      | inl there ↦ here k there
      | inr before ↦ j.taken k y (inl before)
    ]
    | inr agent ↦ elim (agent_after (agents v.store) seat x c k y o (sym (ap (λ table. at_seat table k) s.carried.agents) ∙ agent)) [
      | inl new ↦ here k new.0
      | inr before ↦ j.taken k y (inr before)
    ]
  ] where
    here : (k : ℕ) → k ≡ seat → in_use (moment v).world k ≡ true
    here k there = subst (λ n. in_use (moment v).world n ≡ true) (sym there) (acts_taken v j seat x s.acts)

  pub serving_joined : IsTied left new.next new.retired.keys
  serving_joined = record {
    joins = record {
      vault = still_vault;
      opened = j.opened;
      part = still_part;
      parked = λ y h. subst (λ (K : Protection). IsVertex K y) (sym graph_left) (vertex_stays G in_G x c o carried y (j.parked y (acted_parked s.carried.acted y h)));
      names = names_are;
      principals = s.carried.principals;
      assumed = λ k y at. assumed_after v.history e (agents v.store) j.assumed k y (sym (ap (λ table. at_seat table k) s.carried.agents) ∙ at);
      taken = still_taken;
      slots = s.carried.acted.slots ∙ j.slots;
      cells = s.carried.acted.cells ∙ j.cells;
      many_slots =
          let many = j.many_slots in
          let moved = s.carried.slots in
          let counted = ap vertex_count graph_left ∙ vertices_counted G in_G x c o carried in
          omega arith;
      many_cells =
          let many = j.many_cells in
          let same = ap edge_count graph_left in
          let counted = edges_counted G in_G x c o v.store.free_cells new.store.free_cells carried (moved_so v j s.store x v.store.free_cells new.store.free_cells c o allowed_held acts s.carried.cells) in
          omega arith;
    };
    serial = after_is;
    retired = retired_are;
  }

-- the entry is that of the outcome, and is pushed
pub record Pushed (v : Contents) (next : ℕ) (retired : List ℕ) (seat x : ℕ) (c : Command) (answer : Answered) (new : State) (history : List Entry) : Type 0 where
  pub joined : IsTied v next retired
  pub store : IsStore v.store
  pub within : seat < 64
  pub acts : actor_at (moment v).world seat ≡ Some x
  pub carried : CarriedIn (graph_seen v.store next v.names (set_of retired)) (seen_in new) v.store new.store seat x c answer
  pub history_is : history ≡ v.history ++ record { seat = seat; actor = x; command = c; outcome = answer.outcome } ∷ []

module _ (v : Contents) (next : ℕ) (retired : List ℕ) (seat x : ℕ) (c : Command) (answer : Answered) (new : State) (history : List Entry)
    (p : Pushed v next retired seat x c answer new history) where
  serving : Serving v seat x c answer new
  serving =
      let tied = p.joined in
      record {
        joins = tied.joins;
        store = p.store;
        within = p.within;
        acts = p.acts;
        carried =
            subst (λ (H : Protection). CarriedIn H (seen_in new) v.store new.store seat x c answer) (λ i. graph_seen v.store (tied.serial i) (tied.joins.names i) (tied.retired i)) p.carried;
      }

  pushed_is : left v seat x c answer new serving ≡ record v { store = new.store; names = new.names; history = history }
  pushed_is = λ i. record v { store = new.store; names = new.names; history = sym p.history_is i }

  pub pushed_joined : IsTied (record v { store = new.store; names = new.names; history = history }) new.next new.retired.keys
  pushed_joined = subst (λ (w : Contents). IsTied w new.next new.retired.keys) pushed_is (serving_joined v seat x c answer new serving)

  pub pushed_enters : Enters v.limits (moment v) seat x c answer.reply (moment (record v { store = new.store; names = new.names; history = history }))
  pushed_enters = subst (λ (w : Contents). Enters v.limits (moment v) seat x c answer.reply (moment w)) pushed_is (serving_enters v seat x c answer new serving)

  pub pushed_same : SameForAgreeing v (record v { store = new.store; names = new.names; history = history }) answer.reply
  pushed_same = subst (λ (w : Contents). SameForAgreeing v w answer.reply) pushed_is (serving_same v seat x c answer new serving)

  pub pushed_exact : IsExact v (record v { store = new.store; names = new.names; history = history })
  pushed_exact = subst (λ (w : Contents). IsExact v w) pushed_is (serving_exact v seat x c answer new serving)

  pub pushed_acts : SessionStep v (record v { store = new.store; names = new.names; history = history })
  pushed_acts = subst (λ (w : Contents). SessionStep v w) pushed_is (serving_acts v seat x c answer new serving)

-- no vertex that waits to be swept has the next serial
pub next_unparked : (v : Contents) → Ties v → IsStore v.store → IsParkedIn v.store (graph_now v).next → ⊥
next_unparked v j store h = let below : (graph_now v).next < (graph_now v).next = (graph_is v j store).below_next (graph_now v).next (j.parked (graph_now v).next h) in absurd (omega arith)
