-- What is held is a part of the graph of the history: what the rules decide in one, they decide in the other.
use Rattle.std.proofs.Common.{◌≡◌, ℕ, ◌+◌, ◌-◌, ◌<◌, ◌≤◌, ◌⊎◌, List, Bool, true, false, refl, sym, ap, subst, ◌∙◌, inl, inr, Some, None, arith}
use Rattle.std.specs.Prelude.{◌↔◌, Option}
use Rattle.std.specs.Option.{is_some, option_map}
use Rattle.tg_lists.specs.Promise.Membership.{Contains}
use Rattle.tg_rights.specs.Promise.Letters.{is_none}
use Rattle.tg_rights.specs.declared.command.Command.{Command}
use Rattle.tg_rights.specs.declared.outcome.Which.{Which}
use Rattle.tg_rights.specs.declared.outcome.Which.TheVariants as which
use Rattle.tg_rights.specs.declared.outcome.Outcome.{Outcome}
use Rattle.tg_rights.specs.declared.outcome.Outcome.TheVariants as outcome
use Rattle.tg_graph.specs.declared.member.Member.{Member}
use Rattle.tg_graph.specs.declared.vertex.Vertex.{Vertex}
use Rattle.tg_graph.specs.Promise.Protection.{has_serial, Protection, IsGraph, IsVertex, IsSubject, has_retired, is_active, Agree}
use Rattle.tg_graph.specs.Promise.Fullness.{Limits, NewEdge, Permitted, vertex_count, edge_count}
use Rattle.tg_graph.specs.Promise.Terms as effect
use Rattle.tg_graph.specs.Promise.Terms.{Does, terms}
use Rattle.tg_graph.specs.Promise.Rules.{Allowed, Judged, allowed_reply, answered, denial, is_create, is_new, last_serial}
use Rattle.tg_graph.proofs.OutcomesAgreeLemmas.{Judged-agrees}
use Rattle.tg_graph.proofs.ProtectionLemmas.{Entitled, edge_to, entitled}
use Rattle.tg_graph.proofs.PartsStayLemmas.{agree_back, part_agrees}
use Rattle.tg_graph.proofs.ExactlyOneOutcomeLemmas.{verdict-Judged}
use Rattle.tg_graph.proofs.RepliesAgreeLemmas.{same_reply}
use Rattle.tg_graph.proofs.RollLemmas.{member_finds, member_found}
use Rattle.tg_collect.specs.Promise.Readings.{IsHeldIn, IsRootIn, agents, principals}
use Rattle.tg_collect.specs.Promise.Views.{IsStore}
use Rattle.tg_collect.proofs.RunLemmas.{held_graph}
use Rattle.tg_vault.specs.Promise.History.{MayAsk, WasPrincipal, WasRetired}
use Rattle.tg_vault.specs.Promise.World.{ExactSlots, World, acting, actor_at, at_seat}
use Rattle.tg_vault.specs.Promise.Contents.{Contents, graph_now, held_now, moment, Ties, IsUsedUp}
use Rattle.tg_vault.specs.Inner.CarriedOut.{Decided}
use Rattle.tg_vault.proofs.HistoryLemmas.{active_subject, assumed_subject, legal_keeps}
use Rattle.tg_vault.proofs.SerialsLemmas.{is_listed, listed}
use Rattle.tg_vault.proofs.PlaceLemmas.{seat_contains}
use Rattle.tg_vault.proofs.RetiredLemmas.{retired_alike, retired_leaves}
use Rattle.tg_vault.proofs.CarriedOutLemmas.{needs_none}

-- who can have a command carried out: a root of the store, and a subject
pub record IsActor (v : Contents) (x : ℕ) : Type 0 where
  pub root : IsRootIn v.store x
  pub subject : IsSubject (graph_now v) x

module _ (v : Contents) (j : Ties v) (store : IsStore v.store) where
  abbrev G : Protection
  G = graph_now v

  abbrev H : Protection
  H = held_now v

  pub graph_is : IsGraph (graph_now v)
  graph_is = (legal_keeps v.limits v.opening v.history (graph_now v) j.opened j.vault.legal).graph

  pub of_graph : (x : ℕ) → IsVertex H x → IsVertex G x
  of_graph x h = ap is_some (j.part.vertices x h) ∙ h

  -- the roots of the store are the principals of the graph, the pending targets and the agents
  pub principal_listed : (x : ℕ) → is_active (graph_now v) x ≡ true → Contains (principals v.store) x
  principal_listed x active =
      subst (λ (xs : List ℕ). Contains xs x) (sym j.principals) (is_listed v.names x (subst (λ (ms : List Member). has_serial ms x ≡ true) (sym j.names) active))

  pub principal_root : (x : ℕ) → is_active (graph_now v) x ≡ true → IsRootIn v.store x
  principal_root x active = inl (principal_listed x active)

  pub root_principal : (x : ℕ) → Contains (principals v.store) x → is_active (graph_now v) x ≡ true
  root_principal x root = subst (λ (ms : List Member). has_serial ms x ≡ true) j.names (listed v.names x (subst (λ (xs : List ℕ). Contains xs x) j.principals root))

  -- a principal has not retired, and whoever sits somewhere and is none has
  pub root_active : (x : ℕ) → Contains (principals v.store) x → has_retired (graph_now v) x ≡ false
  root_active x root =
      let m = member_found (graph_now v).names x (root_principal x root) in subst (λ (n : ℕ). has_retired (graph_now v) n ≡ false) m.2 (graph_is.roll.active m.0 m.1)

  now_gone : (x : ℕ) → WasRetired v.history x → has_retired (graph_now v) x ≡ true
  now_gone = (legal_keeps v.limits v.opening v.history (graph_now v) j.opened j.vault.legal).retired

  pub none_gone : (x : ℕ) → WasPrincipal (graph_now v) v.history x → (Contains (principals v.store) x → ⊥) → has_retired (graph_now v) x ≡ true
  none_gone x (inl active) none = absurd (none (principal_listed x active))
  none_gone x (inr gone) none = now_gone x gone

  -- who acts at a seat may ask, and is a root and a subject unless it is a principal that has retired
  abbrev Acts : ℕ → ℕ → Type 0
  Acts seat x = MayAsk (graph_now v) v.history seat x × (IsActor v x ⊎ (has_retired (graph_now v) x ≡ true))

  pub acts_here : (seat x : ℕ) → actor_at (moment v).world seat ≡ Some x → Acts seat x
  acts_here seat x acts = by (at_seat (agents v.store) seat) refl acts where
    sits : WasPrincipal (graph_now v) v.history x → Acts seat x
    sits (inl active) = (inl active, inl (record { root = principal_root x active; subject = active_subject (graph_now v) x graph_is active }))
    sits (inr gone) = (inr (inl gone), inr (now_gone x gone))

    by : (a : Option ℕ) → at_seat (agents v.store) seat ≡ a → acting a (at_seat v.seats seat) ≡ Some x → Acts seat x
    by None none at = sits (j.vault.seated seat x at)
    by (Some agent) here is =
        let at : at_seat (agents v.store) seat ≡ Some x = here ∙ is in
        let was = j.assumed seat x at in (
          inr (inr was),
          inl (record { root = inr (inr (seat_contains (agents v.store) seat x at)); subject = assumed_subject v.limits v.opening v.history (graph_now v) seat x j.opened j.vault.legal was }),
        )

  member_held : (m : Member) → Contains (graph_now v).names m → IsVertex (held_now v) m.serial
  member_held m h = store.roots_held m.serial (principal_root m.serial (member_finds (graph_now v).names m.serial (m, h, refl)))

  pub held_is : IsGraph (held_now v)
  held_is = held_graph store (graph_now v).next (graph_now v).names (graph_now v).retired (λ x h. graph_is.below_next x (of_graph x h)) (record {
    subjects = λ m h. ap (option_map (λ (e : Vertex). e.kind)) (sym (j.part.vertices m.serial (member_held m h))) ∙ graph_is.roll.subjects m h;
    active = graph_is.roll.active;
    rising = graph_is.roll.rising;
    apart = graph_is.roll.apart;
    few = graph_is.roll.few;
    past = graph_is.roll.past;
  })

  -- the next serial is nobody's
  pub next_unheld : IsHeldIn v.store (graph_now v).next → ⊥
  next_unheld h = let below : (graph_now v).next < (graph_now v).next = held_is.below_next (graph_now v).next h in absurd (omega arith)

  module _ (x : ℕ) (actor : IsActor v x) where
    pub actor_held : IsVertex (held_now v) x
    actor_held = store.roots_held x actor.root

    pub actor_agrees : Agree (held_now v) (graph_now v) x
    actor_agrees = agree_back G H x (part_agrees G H j.part x actor_held actor.subject)

    pub judged_so : (c : Command) (o : Outcome) → Judged H x c o → Judged G x c o
    judged_so c o = Judged-agrees H G x c o actor_agrees

    -- what an allowed command takes for granted of what is held
    pub entitled_held : (c : Command) → Allowed H x c → Entitled H (IsVertex H) (λ v z k e. edge_to H held_is v z e) x actor_held (terms x c).does
    entitled_held c a = entitled H (IsVertex H) (λ v z k e. edge_to H held_is v z e) x actor_held c a

    -- the same edges are made in both
    new_edge_so : (d : Does) → Entitled H (IsVertex H) (λ v z k e. edge_to H held_is v z e) x actor_held d → NewEdge H d → NewEdge G d
    new_edge_so (effect.Joins from α to) h new = λ e. new (ap is_none (sym (j.part.labels from to h.0)) ∙ e)
    new_edge_so _ h new = new

    new_edge_back : (d : Does) → Entitled H (IsVertex H) (λ v z k e. edge_to H held_is v z e) x actor_held d → NewEdge G d → NewEdge H d
    new_edge_back (effect.Joins from α to) h new = λ e. new (ap is_none (j.part.labels from to h.0) ∙ e)
    new_edge_back _ h new = new

    pub used_up_so : (c : Command) (f g : ℕ) (w : Which) → Allowed H x c → IsUsedUp H f g (terms x c).does w → IsUsedUp G f g (terms x c).does w
    used_up_so c f g which.Cells a u = (new_edge_so (terms x c).does (entitled_held c a) u.0, u.1, u.2)
    used_up_so c f g _ a u = u

    pub used_up_back : (c : Command) (f g : ℕ) (w : Which) → Allowed H x c → IsUsedUp G f g (terms x c).does w → IsUsedUp H f g (terms x c).does w
    used_up_back c f g which.Cells a u = (new_edge_back (terms x c).does (entitled_held c a) u.0, u.1, u.2)
    used_up_back c f g _ a u = u

    pub decided_so : (c : Command) (f g : ℕ) (o : Outcome) → Decided H f g x c o → Decided G f g x c o
    decided_so c f g outcome.Allowed d = (judged_so c outcome.Allowed d.0, λ w u. d.1 w (used_up_back c f g w d.0 u))
    decided_so c f g (outcome.Denied rule cause) d = judged_so c (outcome.Denied rule cause) d
    decided_so c f g (outcome.Full w) d = (judged_so c outcome.Allowed d.0, used_up_so c f g w d.0 d.1)

    -- the new serial is that of the graph; the rest of a reply the actor can see in both
    pub replied_so : (c : Command) → Allowed H x c → allowed_reply H x c ≡ allowed_reply G x c
    replied_so c a = by (is_create x c) refl where
      made : (d : Does) → is_new d ≡ true → answered H d ≡ answered G d
      made (effect.Makes k α name) new = refl
      made _ new = absurd (cc new)

      by : (b : Bool) → is_create x c ≡ b → answered H (terms x c).does ≡ answered G (terms x c).does
      by true new = made (terms x c).does new
      by false old = same_reply H G x actor_agrees c held_is graph_is a old

-- a command of one who has retired is a leave or denied, whatever is held
pub retired_decided : (G H : Protection) (f g x : ℕ) (c : Command) (o : Outcome) → has_retired G x ≡ true → has_retired H x ≡ true → Decided H f g x c o → Decided G f g x c o
retired_decided G H f g x c o gone there = by o where
  same : denial G x c ≡ denial H x c
  same = retired_alike G H x c gone there

  none : (K : Protection) → Allowed H x c → (w : Which) → IsUsedUp K f g (terms x c).does w → ⊥
  none K a = subst (λ k. (w : Which) → IsUsedUp K f g (terms x k).does w → ⊥) (sym (retired_leaves H x c there a)) (needs_none K f g (effect.Acts None) refl (λ u. u))

  by : (o : Outcome) → Decided H f g x c o → Decided G f g x c o
  by outcome.Allowed d = (same ∙ d.0, none G d.0)
  by (outcome.Denied rule why) d = (d.0, same ∙ d.1)
  by (outcome.Full w) d = absurd (none H d.0 w d.1)

-- a command has one outcome by the rules
pub judged_once : (G : Protection) (x : ℕ) (c : Command) (o p : Outcome) → Judged G x c o → Judged G x c p → p ≡ o
judged_once G x c o p a d = verdict-Judged G x c p d ∙ sym (verdict-Judged G x c o a)

-- what a graph allows it does not deny
pub not_both : (G : Protection) (x : ℕ) (c : Command) (o : Outcome) → Judged G x c outcome.Allowed → Judged G x c o → o ≡ outcome.Allowed
not_both G x c o a d = judged_once G x c outcome.Allowed o a d

-- a history permits what is decided in this way
pub decided_permitted : (limits : Limits) (G : Protection) (f g x : ℕ) (c : Command) (o : Outcome) → limits.slots ≤ f + vertex_count G → limits.cells ≤ g + edge_count G →
    Decided G f g x c o → Permitted limits G x c o
decided_permitted limits G f g x c outcome.Allowed slots cells d = (d.0, λ create. let left : last_serial < G.next → ⊥ = λ above. d.1 which.Serials (create, above) in omega arith)
decided_permitted limits G f g x c (outcome.Full which.Slots) slots cells d = (d.0, (d.1.0, d.1.1, (let none = d.1.2 in omega arith)))
decided_permitted limits G f g x c (outcome.Full which.Cells) slots cells d = (d.0, (d.1.0, (let none = d.1.2 in omega arith)))
decided_permitted limits G f g x c _ slots cells d = d

-- full for slots, exactly by the count
pub exact_slots : (limits : Limits) (w : World) (f g x : ℕ) (c : Command) (o : Outcome) → w.used ≡ limits.slots - f → f ≤ limits.slots → Decided w.graph f g x c o → ExactSlots limits w x c o
exact_slots limits w f g x c o used few d = (to o d, back o d) where
  to : (o : Outcome) → Decided w.graph f g x c o → o ≡ outcome.Full which.Slots → (is_create x c ≡ true) × Allowed w.graph x c × (w.graph.next ≤ last_serial) × (w.used ≡ limits.slots)
  to (outcome.Full which.Slots) d is = (d.1.0, d.0, d.1.1, (let none = d.1.2 in omega arith))
  to _ d is = absurd (cc is)

  back : (o : Outcome) → Decided w.graph f g x c o → (is_create x c ≡ true) × Allowed w.graph x c × (w.graph.next ≤ last_serial) × (w.used ≡ limits.slots) → o ≡ outcome.Full which.Slots
  back outcome.Allowed d h = absurd (d.1 which.Slots (h.0, h.2, (let full = h.3 in omega arith)))
  back (outcome.Denied rule cause) d h = absurd (cc (not_both w.graph x c (outcome.Denied rule cause) h.1 d))
  back (outcome.Full which.Serials) d h = let above = d.1.1 in let below = h.2 in absurd (omega arith)
  back (outcome.Full which.Slots) d h = refl
  back (outcome.Full which.Cells) d h = absurd (d.1.1 h.0 (let full = h.3 in omega arith))

no_serial : (G : Protection) (f g : ℕ) (d : Does) → IsUsedUp G f g d which.Serials → IsUsedUp G f g d which.Cells → ⊥
no_serial G f g (effect.Makes k α name) a b = let above = a.1 in let below = b.0 in absurd (omega arith)
no_serial G f g _ a b = cc a.0

-- full exactly if something is used up
pub exact_full : (G : Protection) (f g x : ℕ) (c : Command) (o : Outcome) (w : Which) → Decided G f g x c o → (o ≡ outcome.Full w) ↔ (Allowed G x c × IsUsedUp G f g (terms x c).does w)
exact_full G f g x c o w d = (to o d, back o d) where
  to : (o : Outcome) → Decided G f g x c o → o ≡ outcome.Full w → Allowed G x c × IsUsedUp G f g (terms x c).does w
  to (outcome.Full u) d is = let same : u ≡ w = cc is in (d.0, subst (IsUsedUp G f g (terms x c).does) same d.1)
  to _ d is = absurd (cc is)

  one : (u w : Which) → IsUsedUp G f g (terms x c).does u → IsUsedUp G f g (terms x c).does w → u ≡ w
  one which.Serials which.Serials a b = refl
  one which.Serials which.Slots a b = let above = a.1 in let below = b.1 in absurd (omega arith)
  one which.Serials which.Cells a b = absurd (no_serial G f g (terms x c).does a b)
  one which.Slots which.Serials a b = let above = b.1 in let below = a.1 in absurd (omega arith)
  one which.Slots which.Slots a b = refl
  one which.Slots which.Cells a b = absurd (b.1 a.0 a.2)
  one which.Cells which.Serials a b = absurd (no_serial G f g (terms x c).does b a)
  one which.Cells which.Slots a b = absurd (a.1 b.0 b.2)
  one which.Cells which.Cells a b = refl

  back : (o : Outcome) → Decided G f g x c o → Allowed G x c × IsUsedUp G f g (terms x c).does w → o ≡ outcome.Full w
  back outcome.Allowed d h = absurd (d.1 w h.1)
  back (outcome.Denied rule cause) d h = absurd (cc (not_both G x c (outcome.Denied rule cause) h.0 d))
  back (outcome.Full u) d h = ap (λ u. outcome.Full u) (one u w d.1 h.1)
