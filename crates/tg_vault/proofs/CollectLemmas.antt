-- A vault after a step that enters nothing: somebody takes a seat or leaves it, a seat's target is shaded, or the collector
-- makes a step.
use Rattle.std.proofs.Common.{◌≡◌, ℕ, ◌+◌, ◌-◌, ◌≤◌, List, Option, None, Some, refl, sym, ap, subst, ◌∙◌, inl, inr, Bool, true, set, length-set, is_some, arith}
use Rattle.tg_graph.specs.declared.member.Member.{Member}
use Rattle.tg_graph.specs.Promise.Protection.{serial_of, IsVertex, is_active, named, IsPart}
use Rattle.tg_collect.specs.Promise.Stored.{Stored}
use Rattle.tg_collect.specs.Promise.Readings.{IsParkedIn, free_slots, held, agents, pending, pending_of, principals, slot_count}
use Rattle.tg_collect.specs.Promise.Sessions.{AgentLeft, Shaded, Acted}
use Rattle.tg_collect.specs.Promise.Views.{IsStore, Collected}
use Rattle.tg_collect.proofs.SeatLemmas.{acted_same}
use Rattle.tg_collect.proofs.RunLemmas.{acted_parked, acted_slots, agents_set, collected_parked, collected_part, shaded_graph, shaded_others, shaded_pending, shaded_was}
use Rattle.tg_vault.specs.Promise.History.{WasPrincipal}
use Rattle.tg_vault.specs.Inner.Seen.{graph_seen}
use Rattle.tg_vault.specs.Promise.World.{at_seat}
use Rattle.tg_vault.specs.Promise.Contents.{Contents, graph_now, held_now, moment, IsOfSeat, Ties}
use Rattle.tg_vault.specs.Inner.Fits.{IsTied}
use Rattle.tg_vault.specs.Promise.StoreSteps.{SessionStep}
use Rattle.tg_vault.proofs.DecidedLemmas.{of_graph}
use Rattle.tg_vault.proofs.PlaceLemmas.{set_none, set_seat, set_used}
use Rattle.tg_vault.proofs.SerialsLemmas.{named_active}

-- an event that leaves the store is a session step
pub still_acts : (v w : Contents) → w.store ≡ v.store → SessionStep v w
still_acts v w same = record { came = None; target = None; acted = acted_same v.store w.store same; next = λ x is. absurd (cc is); live = λ x is. absurd (cc is) }

-- a vault stays tied when a principal takes a seat, or somebody leaves one
module _ (v : Contents) (next : ℕ) (retired : List ℕ) (tied : IsTied v next retired) (seat : ℕ) where
  pub seat_set : (o : Option ℕ) → ((y : ℕ) → o ≡ Some y → WasPrincipal (graph_now v) v.history y) → ((x : ℕ) → IsOfSeat (moment v).world seat x → is_some o ≡ true) → IsTied (record v { seats = set v.seats seat o }) next retired
  seat_set o was put =
      let j = tied.joins in
      record {
        joins = record {
          vault = record {
            legal = j.vault.legal;
            sat = j.vault.sat;
            seats = length-set v.seats seat o ∙ j.vault.seats;
            seated = λ k y at. elim (set_seat v.seats seat k o y at) [ inl now ↦ was y now.1 | inr before ↦ j.vault.seated k y before ];
          };
          opened = j.opened;
          part = j.part;
          parked = j.parked;
          names = j.names;
          principals = j.principals;
          assumed = j.assumed;
          taken = λ k x at. set_used v.seats seat k o (j.taken k x at) (λ is. put x (subst (λ n. IsOfSeat (moment v).world n x) is at));
          slots = j.slots;
          cells = j.cells;
          many_slots = j.many_slots;
          many_cells = j.many_cells;
        };
        serial = tied.serial;
        retired = tied.retired;
      }

  -- a name is found in the graph, and whoever has it is a principal
  pub found_named : (name : List ℕ) → serial_of v.names name ≡ named (graph_now v) name
  found_named name = ap (λ (ms : List Member). serial_of ms name) tied.joins.names

  pub seat_taken : (name : List ℕ) (x : ℕ) → serial_of v.names name ≡ Some x → IsTied (record v { seats = set v.seats seat (Some x) }) next retired
  seat_taken name x found =
      let active : is_active (graph_now v) x ≡ true = named_active (graph_now v).names name x (sym (found_named name) ∙ found) in
      seat_set (Some x) (λ y is. let same : x ≡ y = cc is in inl (subst (λ (n : ℕ). is_active (graph_now v) n ≡ true) same active)) (λ y at. refl)

-- each of a table was at its place before: the table is the same, or a place was emptied
abbrev Fewer : (before after : List (Option ℕ)) → Type 0
Fewer before after = (k y : ℕ) → at_seat after k ≡ Some y → at_seat before k ≡ Some y

same_fewer : (before after : List (Option ℕ)) → after ≡ before → Fewer before after
same_fewer before after same k y at = sym (ap (λ table. at_seat table k) same) ∙ at

one_fewer : (before after : List (Option ℕ)) (seat : ℕ) → after ≡ set before seat None → Fewer before after
one_fewer before after seat gone k y at = elim (set_seat before seat k None y (sym (ap (λ table. at_seat table k) gone) ∙ at)) [ inl new ↦ absurd (cc new.1) | inr was ↦ was ]

module _ (v : Contents) (j : Ties v) (t : Stored) where
  -- a vault stays tied to a store of which no less is free, if what it holds is still a part of the graph, and each target
  -- and each agent was one
  still_joined : IsPart (graph_now v) (graph_seen t (graph_now v).next (graph_now v).names (graph_now v).retired) → ((x : ℕ) → IsParkedIn t x → IsVertex (graph_now v) x) → principals t ≡ principals v.store →
      Fewer (pending v.store) (pending t) → Fewer (agents v.store) (agents t) →
      slot_count t ≡ slot_count v.store → t.cells ≡ v.store.cells → free_slots v.store ≤ free_slots t → v.store.free_cells ≤ t.free_cells → Ties (record v { store = t })
  still_joined part parked same waited were slots cells more_slots more_cells = record {
    vault = record {
      legal = j.vault.legal;
      sat = j.vault.sat;
      seats = j.vault.seats;
      seated = j.vault.seated;
    };
    opened = j.opened;
    part = part;
    parked = parked;
    names = j.names;
    principals = same ∙ j.principals;
    assumed = λ k y at. j.assumed k y (were k y at);
    taken = λ k y at. j.taken k y (elim at [ inl target ↦ inl (waited k y target) | inr agent ↦ inr (were k y agent) ]);
    slots = slots ∙ j.slots;
    cells = cells ∙ j.cells;
    many_slots = let many = j.many_slots in omega arith;
    many_cells = let many = j.many_cells in omega arith;
  }

  -- the same is held, and the same is free
  still_held : Acted v.store t None None → ((next : ℕ) → held t next ≡ held v.store next) → principals t ≡ principals v.store → Fewer (pending v.store) (pending t) → Fewer (agents v.store) (agents t) →
      t.free_cells ≡ v.store.free_cells → Ties (record v { store = t })
  still_held acted graph same waited were cells =
      let slots = acted_slots acted in
      let seen_too : held_now v ≡ graph_seen t (graph_now v).next (graph_now v).names (graph_now v).retired =
      λ i. record (sym (graph (graph_now v).next) i) { names = (graph_now v).names; retired = (graph_now v).retired } in
      still_joined (subst (λ H. IsPart (graph_now v) H) seen_too j.part) (λ x h. j.parked x (acted_parked acted x h)) same waited were acted.slots acted.cells (omega arith) (omega arith)

  module _ (seat : ℕ) (answer : Option ℕ) (shaded : Shaded v.store t seat answer) where
    pub shaded_joins : Acted v.store t None None → Ties (record v { store = t })
    shaded_joins acted =
        still_held acted (shaded_graph v.store t seat answer shaded) (shaded_others v.store t seat answer shaded).0
        (one_fewer (pending v.store) (pending t) seat (shaded_pending v.store t seat answer shaded)) (same_fewer (agents v.store) (agents t) (shaded_others v.store t seat answer shaded).1) (shaded_others v.store t seat answer shaded).2

    pub shaded_step : Acted v.store t None None → (answer ≡ pending_of v.store seat) × (moment (record v { store = t }) ≡ record (moment v) { world = record (moment v).world { pending = set (pending v.store) seat None } })
    shaded_step acted = (
      shaded_was v.store t seat answer shaded,
      λ i. record {
        world = record {
          graph = graph_now v;
          seats = v.seats;
          agents = (shaded_others v.store t seat answer shaded).1 i;
          pending = shaded_pending v.store t seat answer shaded i;
          used = v.limits.slots - acted_slots acted i;
        };
        history = v.history;
      },
    )

  module _ (sv : IsStore v.store) (st : IsStore t) (count : ℕ) (ended : Bool) (c : Collected v.store t count ended) where
    pub collected_joins : Ties (record v { store = t })
    collected_joins =
        let moved = c.free_slots in
        still_joined (collected_part c (graph_now v).next (graph_now v).names (graph_now v).retired (graph_now v) j.part sv st) (λ x h. elim (collected_parked c sv x h) [ inl parked ↦ j.parked x parked | inr was ↦ of_graph v j sv x was ])
        (ap (λ rs. principals (record v.store { roots = rs })) c.roots) (same_fewer (pending v.store) (pending t) (ap (λ rs. pending (record v.store { roots = rs })) c.roots)) (same_fewer (agents v.store) (agents t) (ap (λ rs. agents (record v.store { roots = rs })) c.roots)) c.step.size c.cells (omega arith) c.free_cells.0

    pub collected_step : (used : ℕ) × ((moment v).world.used ≡ used + count) × (moment (record v { store = t }) ≡ record (moment v) { world = record (moment v).world { used = used } })
    collected_step = (
      v.limits.slots - free_slots t,
      (let all = st.slots 0 in let many = j.slots in let same = c.step.size in let moved = c.free_slots in omega arith),
      λ i. record { world = record { graph = graph_now v; seats = v.seats; agents = agents (record v.store { roots = c.roots i }); pending = pending (record v.store { roots = c.roots i }); used = v.limits.slots - free_slots t }; history = v.history },
    )

-- somebody has left a seat, and its agent went
module _ (v : Contents) (next : ℕ) (retired : List ℕ) (tied : IsTied v next retired) (t : Stored) (seat : ℕ) (idle : pending_of v.store seat ≡ None) (left : AgentLeft v.store t seat) (acted : Acted v.store t None None) where
  abbrev emptied : Contents
  emptied = record v { seats = set v.seats seat None }

  gone : agents t ≡ set (agents v.store) seat None
  gone = agents_set v.store t seat None (ap (λ z. z.roots.agents) left)

  pub left_joins : IsTied (record emptied { store = t }) next retired
  left_joins = seat_set (record v { store = t }) next retired agentless seat None (λ y is. absurd (cc is)) (λ x at. absurd (elim at [ inl target ↦ no_target x target | inr agent ↦ no_agent x agent ])) where
    agentless : IsTied (record v { store = t }) next retired
    agentless = record {
      joins =
          still_held v tied.joins t acted (λ n. ap (λ z. held z n) left) (ap (λ z. principals z) left)
          (same_fewer (pending v.store) (pending t) (ap (λ z. pending z) left)) (one_fewer (agents v.store) (agents t) seat gone) (ap (λ z. z.free_cells) left);
      serial = tied.serial;
      retired = tied.retired;
    }

    no_target : (x : ℕ) → at_seat (pending t) seat ≡ Some x → ⊥
    no_target x at = cc (at, ap (λ z. at_seat (pending z) seat) left ∙ idle)

    no_agent : (x : ℕ) → at_seat (agents t) seat ≡ Some x → ⊥
    no_agent x at = set_none (agents v.store) seat x (sym (ap (λ table. at_seat table seat) gone) ∙ at)

  pub left_step : moment (record emptied { store = t }) ≡ record (moment v) { world = record (moment v).world { seats = set v.seats seat None; agents = set (agents v.store) seat None } }
  left_step = λ i. record {
    world = record {
      graph = graph_now v;
      seats = set v.seats seat None;
      agents = gone i;
      pending = pending (left i);
      used = v.limits.slots - acted_slots acted i;
    };
    history = v.history;
  }
