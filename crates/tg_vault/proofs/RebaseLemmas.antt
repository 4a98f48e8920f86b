-- What three cycles leave of a vault with nobody on a seat, and the vault that begins with it.
use Rattle.std.proofs.Common.{◌≡◌, ℕ, ◌≤◌, List, [], ◌∷◌, ◌++◌, filter, cond, sum_by, true, true≢false, is_some, refl, sym, ap, subst, ◌∙◌, ◌⊎◌, inl, inr, arith, ◌+◌}
use Rattle.std.specs.Cmp.{nat_cmp_total}
use Rattle.std.specs.FinSet as set
use Rattle.std.specs.Ordering.{eq_by_cmp, nat_cmp}
use Rattle.std.proofs.lemmas.List.Sums.{sum_by-append, sum_by-cons}
use Rattle.tg_rights.specs.declared.command.Command.{Command}
use Rattle.tg_rights.specs.declared.command.Command.TheVariants as command
use Rattle.tg_rights.specs.declared.outcome.Outcome.{Outcome}
use Rattle.tg_rights.specs.declared.outcome.Outcome.TheVariants as outcome
use Rattle.tg_rights.specs.declared.outcome.Which.{Which}
use Rattle.tg_rights.specs.declared.outcome.Which.TheVariants as which
use Rattle.tg_lists.specs.Promise.Membership.{Contains}
use Rattle.tg_rights.specs.declared.kind.Kind.TheVariants as kind
use Rattle.tg_graph.specs.declared.member.Member.{Member}
use Rattle.tg_graph.specs.Promise.Fullness.{Limits, MayBeFull, Permitted, vertex_count}
use Rattle.tg_graph.specs.Promise.Laws.{RestrictionsAgree, RestrictionsPermit, RestrictionsReply, RestrictionsStay}
use Rattle.tg_graph.specs.Promise.Protection.{has_serial, IsClosed, IsPart, IsRestriction, Live, Protection, IsGraph, IsVertex, has_retired, is_active, label}
use Rattle.tg_graph.specs.Promise.Rules.{is_create, next_graph, reply_of}
use Rattle.tg_graph.proofs.RestrictingLemmas.{one_restriction}
use Rattle.tg_graph.proofs.RestrictionLemmas.{by_vertices, whole}
use Rattle.tg_graph.proofs.RollLemmas.{any_is, contains_filter, filter_contains, is_any}
use Rattle.tg_graph.proofs.VertexLemmas.{IsVertex-from_kind}
use Rattle.tg_collect.specs.declared.note.Note.{Note}
use Rattle.tg_collect.specs.declared.note.Phase.TheVariants.{Idle}
use Rattle.tg_collect.specs.Promise.Parts.{ListsSerials}
use Rattle.tg_collect.specs.Promise.Readings.{phase, free_slots, parked_count}
use Rattle.tg_collect.specs.Promise.Runs as runs
use Rattle.tg_collect.specs.Promise.Views.{IsStore}
use Rattle.tg_collect.proofs.RunLemmas.{ended_idle}
use Rattle.tg_collect.proofs.ShownLemmas.{same_key}
use Rattle.tg_collect.proofs.StoreLemmas.{idle_unparked, same_truth, idle_none_parked}
use Rattle.tg_vault.specs.declared.entry.Entry.{Entry}
use Rattle.tg_collect.specs.declared.note.Swept.{Swept}
use Rattle.tg_vault.specs.Promise.History.{EntryRun, EntryStep, MayAsk}
use Rattle.tg_vault.specs.Inner.Seen.{set_of}
use Rattle.tg_vault.specs.Promise.World.{Moment, NobodySits, Run}
use Rattle.tg_vault.specs.Promise.Contents.{Contents, graph_now, held_now, moment, HasSlot, IsRoot}
use Rattle.tg_vault.specs.Inner.Fits.{IsTied}
use Rattle.tg_vault.specs.Promise.Course.{Course, IsCoherent}
use Rattle.tg_vault.specs.Promise.Cycles.{IsCycle, ended_in, notes_in}
use Rattle.tg_vault.specs.Promise.Rebase.{IsRebased, RepliedAlike, ThreeCycles}
use Rattle.tg_vault.specs.Inner.Rebase.{reopening}
use Rattle.tg_vault.proofs.CourseLemmas.{course_keeps, course_run}
use Rattle.tg_vault.proofs.CycleLemmas.{course_coherent, from_idle, live_so}
use Rattle.tg_vault.proofs.DecidedLemmas.{graph_is, held_is, of_graph}
use Rattle.tg_vault.proofs.FitsLemmas.{fits_are}
use Rattle.tg_vault.proofs.FreshLemmas.{begins_tied}
use Rattle.tg_vault.proofs.HistoryLemmas.{IsLawful, active_subject, asks_subject, lawful_first, turn_keeps}
use Rattle.tg_vault.proofs.ReopeningLemmas.{kept_retired, reopening_graph}
use Rattle.tg_vault.proofs.RetiredLemmas.{leave_allowed, retired_alike, retired_leaves}
use Rattle.tg_vault.proofs.SweptLemmas.{collects, noted}

-- the moment with this number of slots in use
abbrev with_used : Moment → ℕ → Moment
with_used m used = record m { world = record m.world { used = used } }

-- collector steps change nothing of the world but the number of slots in use
collects_keep : (limits : Limits) (m : Moment) (notes : List Note) (n : Moment) → Run limits m (collects notes) (noted notes) n → (used : ℕ) × (n ≡ with_used m used)
collects_keep limits m [] n same = (m.world.used, same)
collects_keep limits m (note ∷ notes) n (between, step, along) = let rest = collects_keep limits between notes n along in (rest.0, rest.1 ∙ ap (λ (k : Moment). with_used k rest.0) step.2)

pub cycle_keeps : (v w : Contents) (swept : Swept) → IsCycle v swept w → (used : ℕ) × (moment w ≡ with_used (moment v) used)
cycle_keeps v w swept c =
    let notes = c.notes ++ c.last ∷ [] in
    collects_keep v.limits (moment v) notes (moment w) (course_run v (collects notes) (noted notes) w c.course)

-- after a cycle the collector is idle
ends_idle : (notes : List Note) (last : Note) (v w : Contents) → Course v (collects (notes ++ last ∷ [])) (noted (notes ++ last ∷ [])) w → last.ended ≡ true → phase w.store ≡ Idle
ends_idle [] last v w (u, step, same) ended =
    ap (λ (k : Contents). phase k.store) same ∙ ended_idle step.stored.0 ended
ends_idle (note ∷ notes) last v w (u, step, rest) ended = ends_idle notes last u w rest ended

cycle_idle : (v w : Contents) (swept : Swept) → IsCycle v swept w → phase w.store ≡ Idle
cycle_idle v w swept c = ends_idle c.notes c.last v w c.course c.ended

-- two cycles, note by note
collects_join : (u v w : Contents) (ns ms : List Note) → Course u (collects ns) (noted ns) v → Course v (collects ms) (noted ms) w → Course u (collects (ns ++ ms)) (noted (ns ++ ms)) w
collects_join u v w [] ms first then = subst (λ (k : Contents). Course k (collects ms) (noted ms) w) first then
collects_join u v w (n ∷ ns) ms first then = (first.0, first.1, collects_join first.0 v w ns ms first.2 then)

abbrev ends : Note → ℕ
ends n = cond n.ended 1 0

notes_are : (notes : List Note) → notes_in (noted notes) ≡ notes
notes_are [] = refl
notes_are (note ∷ notes) = ap (λ (ns : List Note). note ∷ ns) (notes_are notes)

one_ends : (v w : Contents) (swept : Swept) (c : IsCycle v swept w) → 1 ≤ sum_by ends (c.notes ++ c.last ∷ [])
one_ends v w swept c =
    let all = sum_by-append ends c.notes (c.last ∷ []) in
    let last = sum_by-cons ends c.last [] in
    let one : ◌≡◌ {A = ℕ} (cond c.last.ended 1 0) 1 = ap (λ b. cond b 1 0) c.ended in
    omega (arith, all, last, one)

two_end : (ns ms : List Note) → 1 ≤ sum_by ends ns → 1 ≤ sum_by ends ms → 2 ≤ ended_in (noted (ns ++ ms))
two_end ns ms first next =
    let all = sum_by-append ends ns ms in
    let are : ended_in (noted (ns ++ ms)) ≡ sum_by ends (ns ++ ms) = ap (λ (notes : List Note). sum_by ends notes) (notes_are (ns ++ ms)) in
    omega (arith, first, next, all, are)

-- what has a slot after two cycles was live before them, or is new
live_before : runs.StoresAreComplete → (m : Contents) (notes : List Note) (w : Contents) → IsCoherent m → phase m.store ≡ Idle → Course m (collects notes) (noted notes) w → 2 ≤ ended_in (noted notes) → (x : ℕ) → HasSlot w x →
    Live (graph_now m) (IsRoot (moment m).world) x ⊎ ((graph_now m).next ≤ x)
live_before law m [] w sound idle course two x slot = absurd (omega (arith, two))
live_before law m (note ∷ notes) w sound idle course two x slot = elim (from_idle law m sound idle (collects (note ∷ notes)) note (noted notes) w course two x slot) [ inl live ↦ inl (live_so m sound x live) | inr above ↦ inr above ]

-- a part of a graph is one, whoever has retired in both
retired_aside : (G H : Protection) (retired : set.FinSet nat_cmp) → IsPart G H → IsPart (record G { retired = retired }) (record H { retired = retired })
unfolding label
retired_aside G H retired part = record { vertices = part.vertices; labels = part.labels; closed = part.closed; names = part.names; retired = refl }

module _ (v w : Contents) (c : ThreeCycles v w) where
  kept : (used : ℕ) × (moment w ≡ with_used (moment v) used)
  kept =
      let one = cycle_keeps v c.first c.one c.begins in
      let two = cycle_keeps c.first c.second c.two c.goes_on in
      let three = cycle_keeps c.second w c.three c.ends in
      (three.0, three.1 ∙ ap (λ (m : Moment). with_used m three.0) (two.1 ∙ ap (λ (m : Moment). with_used m two.0) one.1))

  pub same_graph : graph_now w ≡ graph_now v
  same_graph = ap (λ (m : Moment). m.world.graph) kept.1

  pub same_seats : w.seats ≡ v.seats
  same_seats = ap (λ (m : Moment). m.world.seats) kept.1

  pub same_history : w.history ≡ v.history
  same_history = ap (λ (m : Moment). m.history) kept.1

  pub same_opening : w.opening ≡ v.opening
  same_opening = (course_keeps c.second _ _ w c.ends.course).opening ∙ (course_keeps c.first _ _ c.second c.goes_on.course).opening ∙ (course_keeps v _ _ c.first c.begins.course).opening

  same_limits : w.limits ≡ v.limits
  same_limits = (course_keeps c.second _ _ w c.ends.course).limits ∙ (course_keeps c.first _ _ c.second c.goes_on.course).limits ∙ (course_keeps v _ _ c.first c.begins.course).limits

  kept_key : w.store.key ≡ v.store.key
  kept_key = (course_keeps c.second _ _ w c.ends.course).key ∙ (course_keeps c.first _ _ c.second c.goes_on.course).key ∙ (course_keeps v _ _ c.first c.begins.course).key

  pub is_idle : phase w.store ≡ Idle
  is_idle = cycle_idle c.second w c.three c.ends

  abbrev IsLive : ℕ → Type 0
  IsLive = Live (graph_now v) (IsRoot (moment v).world)

  module _ (sound : IsCoherent v) (there : IsCoherent w) where
    -- what has a slot is live
    settled : runs.StoresAreComplete → (x : ℕ) → HasSlot w x → IsLive x
    settled law x slot =
        let one = cycle_keeps v c.first c.one c.begins in
        let ns = c.goes_on.notes ++ c.goes_on.last ∷ [] in
        let ms = c.ends.notes ++ c.ends.last ∷ [] in
        let first = course_coherent v _ _ c.first sound c.begins.course in
        let both = collects_join c.first c.second w ns ms c.goes_on.course c.ends.course in
        elim (live_before law c.first (ns ++ ms) w first (cycle_idle v c.first c.one c.begins) both (two_end ns ms (one_ends c.first c.second c.two c.goes_on) (one_ends c.second w c.three c.ends)) x slot) [
          | inl live ↦ subst (λ (m : Moment). Live m.world.graph (IsRoot m.world) x) one.1 live
          | inr above ↦
              let at = (graph_is w there.ties there.store).below_next x ((fits_are w there.ties there.store).of_graph x slot) in
              let same : (graph_now w).next ≡ (graph_now c.first).next = ap (λ (K : Protection). K.next) (same_graph ∙ sym (ap (λ (m : Moment). m.world.graph) one.1)) in
              absurd (omega (arith, at, above, same))
        ]

    -- and what is live is held
    live_held : (x : ℕ) → IsLive x → IsVertex (reopening w) x
    live_held x live = (fits_are w there.ties there.store).live x (subst (λ (m : Moment). Live m.world.graph (IsRoot m.world) x) (sym kept.1) live)

    restricted : runs.StoresAreComplete → IsRestriction (graph_now v) (reopening w) IsLive
    restricted law = subst (λ (G : Protection). IsRestriction G (reopening w) IsLive) same_graph (record {
      kept = λ x. (λ h. settled law x (inl h), λ live. live_held x live);
      part = retired_aside (graph_now w) (held_now w) (reopening w).retired there.ties.part;
      retired = kept_retired w;
      next = refl;
    })

    -- a principal is live, since it reaches itself
    active_live : (x : ℕ) → is_active (graph_now v) x ≡ true → IsLive x
    active_live x active = (x, inl active, ([], (IsVertex-from_kind (graph_now v) x _ (active_subject (graph_now v) x (graph_is v sound.ties sound.store) active), refl)))

-- who has retired may do the same in a restriction as in the graph, which is next to nothing
module _ (limits : Limits) (G H : Protection) (r : IsRestriction G H (IsVertex H)) (x : ℕ) (c : Command) (gone : has_retired G x ≡ true) (there : has_retired H x ≡ true) where
  abbrev Stays : Command → Outcome → Type 0
  Stays k o = Permitted limits G x k o × IsRestriction (next_graph G x k o) (next_graph H x k o) (IsVertex (next_graph H x k o)) × (reply_of G x k o ≡ reply_of H x k o)

  never_full : (w : Which) → MayBeFull limits H x command.Leave w → ⊥
  never_full which.Cells may = may.0
  never_full _ may = cc may.0

  retired_stays : (o : Outcome) → Permitted limits H x c o → Stays c o
  retired_stays outcome.Allowed permitted =
      subst (λ k. Stays k outcome.Allowed) (sym (retired_leaves H x c there permitted.0)) ((leave_allowed G x command.Leave refl, λ (new : is_create x command.Leave ≡ true). absurd (cc new)), r, refl)
  retired_stays (outcome.Denied rule cause) permitted = ((permitted.0, retired_alike G H x c gone there ∙ permitted.1), r, refl)
  retired_stays (outcome.Full w) permitted = absurd (never_full w (subst (λ k. MayBeFull limits H x k w) (retired_leaves H x c there permitted.0) permitted.1))

-- whatever history is legal from a restriction is legal from the graph, with the same replies
module _ (permit : RestrictionsPermit) (stay : RestrictionsStay) (reply : RestrictionsReply) (limits : Limits) where
  asks_before : (earlier : List Entry) (G H : Protection) (seat x : ℕ) → IsRestriction G H (IsVertex H) → MayAsk H earlier seat x → MayAsk G earlier seat x
  asks_before earlier G H seat x r (inl active) = inl (ap (λ (ms : List Member). has_serial ms x) r.part.names ∙ active)
  asks_before earlier G H seat x r (inr (inl gone)) = inr (inl gone)
  asks_before earlier G H seat x r (inr (inr was)) = inr (inr was)

  step_before : (earlier : List Entry) (G H : Protection) (seat x : ℕ) (c : Command) (o : Outcome) → IsLawful earlier G → IsLawful earlier H → (r : IsRestriction G H (IsVertex H)) → MayAsk H earlier seat x → Permitted limits H x c o →
      Permitted limits G x c o × IsRestriction (next_graph G x c o) (next_graph H x c o) (IsVertex (next_graph H x c o)) × (reply_of G x c o ≡ reply_of H x c o)
  step_before earlier G H seat x c o lawful lawful_too r asks permitted = elim (asks_subject earlier H seat x lawful_too asks) [
    | inl subject ↦ (permit limits G H x c o lawful.graph lawful_too.graph r subject permitted, stay limits G H x c o lawful.graph lawful_too.graph r subject permitted, reply limits G H x c o lawful.graph lawful_too.graph r subject permitted)
    | inr gone ↦ retired_stays limits G H r x c ((r.retired x).0 gone).1 gone o permitted
  ]

  run_before : (earlier : List Entry) (G H : Protection) (es : List Entry) (K : Protection) → IsLawful earlier G → IsLawful earlier H → IsRestriction G H (IsVertex H) → EntryRun limits earlier H es K →
      (L : Protection) × EntryRun limits earlier G es L × IsRestriction L K (IsVertex K) × RepliedAlike G H es
  run_before earlier G H [] K lawful lawful_too r along = (G, refl, subst (λ (k : Protection). IsRestriction G k (IsVertex k)) (sym along) r, tt)
  run_before earlier G H (e ∷ es) K lawful lawful_too r (between, (asks, permitted, left), along) =
      let did = step_before earlier G H e.seat e.actor e.command e.outcome lawful lawful_too r asks permitted in
      let step : EntryStep limits earlier G e (next_graph G e.actor e.command e.outcome) = (asks_before earlier G H e.seat e.actor r asks, did.0, refl) in
      let here = subst (λ (k : Protection). IsRestriction (next_graph G e.actor e.command e.outcome) k (IsVertex k)) (sym left) did.1 in
      let rest = run_before (earlier ++ e ∷ []) (next_graph G e.actor e.command e.outcome) between es K (turn_keeps limits earlier G e _ lawful step) (turn_keeps limits earlier H e between lawful_too (asks, permitted, left)) here along in
      let told = subst (λ (k : Protection). RepliedAlike (next_graph G e.actor e.command e.outcome) k es) left rest.3 in
      (rest.0, (next_graph G e.actor e.command e.outcome, step, rest.1), rest.2, (did.2, told))

-- the vault that begins with what is held
pub rebased : runs.StoresAreComplete → RestrictionsAgree → RestrictionsPermit → RestrictionsStay → RestrictionsReply → (v w : Contents) → ThreeCycles v w → IsCoherent v → IsCoherent w → IsRebased v (record w { opening = reopening w; history = [] })
rebased law agree permit stay reply v w c sound there = record {
  opening = whole;
  graph = reopening_graph w there;
  agrees = λ x active. agree (graph_now v) (reopening w) owned x (live_held v w c sound there x (active_live v w c sound there x active)) (active_subject (graph_now v) x graph active);
  legal = λ entries H legal.
      let r = run_before permit stay reply w.limits [] (graph_now v) (reopening w) entries H (lawful_first (graph_now v) graph) (lawful_first (reopening w) (reopening_graph w there)) owned legal.graphs in
      record {
        whole = r.0;
        legal = record { graphs = subst (λ (l : Limits). EntryRun l [] (graph_now v) entries r.0) (same_limits v w c) r.1 };
        stays = r.2;
        replies = r.3;
      };
  names = there.ties.names ∙ ap (λ (K : Protection). K.names) (same_graph v w c) ∙ sym sound.ties.names;
  limits = same_limits v w c;
  seats = same_seats v w c;
  history = refl;
  cycled = w;
  cycles = c;
  store = refl;
  key = kept_key v w c;
  held = refl;
  unparked = λ x h. idle_unparked w.store (is_idle v w c) x h;
  phase = is_idle v w c;
} where
  graph : IsGraph (graph_now v)
  graph = graph_is v sound.ties sound.store

  whole : IsRestriction (graph_now v) (reopening w) (Live (graph_now v) (IsRoot (moment v).world))
  whole = restricted v w c sound there law

  owned : IsRestriction (graph_now v) (reopening w) (IsVertex (reopening w))
  owned = by_vertices (graph_now v) (reopening w) (Live (graph_now v) (IsRoot (moment v).world)) whole

-- of a set's elements those that are in a part of it are the part
kept_set : (part : set.FinSet nat_cmp) (all : List ℕ) → ((x : ℕ) → set.contains part x ≡ true → set.contains (set_of all) x ≡ true) → set_of (filter (λ x. set.contains part x) all) ≡ part
kept_set part all within = set.same_set nat_cmp_total set.nat_cmp-IsAntisymmetric _ _ (λ q. same_truth _ _ (to q) (back q)) where
  to : (q : ℕ) → set.contains (set_of (filter (λ x. set.contains part x) all)) q ≡ true → set.contains part q ≡ true
  to q t =
      let one = any_is (eq_by_cmp nat_cmp q) (filter (λ x. set.contains part x) all) (sym (set.contains-from_list nat_cmp_total (filter (λ x. set.contains part x) all) q) ∙ t) in
      subst (λ n. set.contains part n ≡ true) (sym (same_key q one.0 one.2)) (contains_filter (λ x. set.contains part x) all one.0 one.1).1

  back : (q : ℕ) → set.contains part q ≡ true → set.contains (set_of (filter (λ x. set.contains part x) all)) q ≡ true
  back q t =
      let one = any_is (eq_by_cmp nat_cmp q) all (sym (set.contains-from_list nat_cmp_total all q) ∙ within q t) in
      let there = filter_contains (λ x. set.contains part x) all one.0 one.1 (subst (λ n. set.contains part n ≡ true) (same_key q one.0 one.2) t) in
      set.contains-from_list nat_cmp_total (filter (λ x. set.contains part x) all) q ∙ is_any (eq_by_cmp nat_cmp q) (filter (λ x. set.contains part x) all) one.0 there one.2

-- it is a vault, with those of the retired that are held
pub reopened_tied : (w : Contents) (next : ℕ) (gone : List ℕ) → IsTied w next gone → IsStore w.store → NobodySits w.seats → phase w.store ≡ Idle → (G : Protection) (left : List ℕ) (es : List Entry) → G ≡ reopening w →
    left ≡ filter (λ x. has_retired G x) gone → es ≡ [] → IsTied (record w { opening = G; history = es }) next left
reopened_tied w next gone tied store nobody idle G left es is kept none =
    let retired : set_of left ≡ (reopening w).retired = ap set_of (kept ∙ ap (λ (K : Protection). filter (λ x. has_retired K x) gone) is) ∙ kept_set (reopening w).retired gone was_gone in
    subst (λ (p : Protection × List Entry). IsTied (record w { opening = p.0; history = p.1 }) next left) (λ i. (sym is i, sym none i)) (record {
      joins = begins_tied (record w { opening = reopening w }) (record {
        graph = reopening_graph w sound;
        store = store;
        holds = refl;
        idle = idle;
        seats = tied.joins.vault.seats;
        nobody = nobody;
        unused = λ seat x of. true≢false (sym (tied.joins.taken seat x of) ∙ ap (λ o. is_some o) (nobody seat));
        names = tied.joins.names;
        principals = tied.joins.principals;
        slots = tied.joins.slots;
        cells = tied.joins.cells;
      });
      serial = tied.serial;
      retired = retired;
    })
  where
    sound : IsCoherent w
    sound = record { ties = tied.joins; store = store }

    was_gone : (x : ℕ) → has_retired (reopening w) x ≡ true → set.contains (set_of gone) x ≡ true
    was_gone x t = ap (λ (all : set.FinSet nat_cmp). set.contains all x) tied.retired ∙ ((kept_retired w x).0 t).1

-- with as many vertices as there are slots in use, the graph of the history is what is held
pub all_held : (w : Contents) → IsCoherent w → phase w.store ≡ Idle → vertex_count (graph_now w) + free_slots w.store ≡ w.limits.slots → ((x : ℕ) → has_retired (graph_now w) x ≡ true → IsVertex (graph_now w) x) → graph_now w ≡ reopening w
all_held w there idle count were = sym (whole (graph_now w) (reopening w) own (graph_is w there.ties there.store) (reopening_graph w there) same were) where
  own : IsRestriction (graph_now w) (reopening w) (IsVertex (reopening w))
  own = record {
    kept = λ x. (λ h. h, λ h. h);
    part = retired_aside (graph_now w) (held_now w) (reopening w).retired there.ties.part;
    retired = kept_retired w;
    next = refl;
  }

  same : vertex_count (reopening w) ≡ vertex_count (graph_now w)
  same =
      let all : free_slots w.store + vertex_count (reopening w) + parked_count w.store ≡ w.limits.slots = (fits_are w there.ties there.store).slots in
      let none = idle_none_parked w.store idle in
      omega (arith, all, none, count)

-- the graph of the history without what is not held is what is held
module _ (w : Contents) (there : IsCoherent w) (xs : List ℕ) (listed : ListsSerials w.store xs) where
  pub held_closed : IsClosed (graph_now w) (Contains xs)
  held_closed = record {
    vertices = λ x h. of_graph w there.ties there.store x ((listed.held x).0 h);
    step = λ x y h e. (listed.held y).1 (there.ties.part.closed x y ((listed.held x).0 h) e);
    principals = λ m h. (listed.held m.serial).1 (IsVertex-from_kind (held_now w) m.serial kind.Subject ((held_is w there.ties there.store).roll.subjects m h));
  }

  pub held_left : (G : Protection) → IsRestriction (graph_now w) G (Contains xs) → IsGraph G → G ≡ reopening w
  held_left G r g = one_restriction (graph_now w) G (reopening w) (Contains xs) g (reopening_graph w there) r (record {
    kept = λ x. (λ h. (listed.held x).1 h, λ h. (listed.held x).0 h);
    part = retired_aside (graph_now w) (held_now w) (reopening w).retired there.ties.part;
    retired = kept_retired w;
    next = refl;
  })
