-- Completeness and the bound, over a course.
use Rattle.std.proofs.Common.{◌≡◌, ℕ, zero, suc, ◌+◌, ◌<◌, ◌≤◌, List, [], ◌∷◌, ◌++◌, length, take, drop, cond, refl, sym, ap, subst, ◌∙◌, ◌⊎◌, inl, inr, Bool, true, false, arith}
use Rattle.std.specs.Ordering.{nat_cmp}
use Rattle.std.specs.FinSet as set
use Rattle.std.proofs.lemmas.List.Sums.{sum_by-cons}
use Rattle.tg_rights.specs.Promise.Letters.{is_none}
use Rattle.tg_graph.specs.declared.member.Member.{Member}
use Rattle.tg_graph.specs.Promise.Protection.{Protection, IsVertex, IsEdge, Leads, Live}
use Rattle.tg_graph.specs.Promise.Fullness.{Limits}
use Rattle.tg_graph.specs.Promise.Rules.{next_graph}
use Rattle.tg_vault.specs.declared.entry.Entry.{Entry}
use Rattle.tg_vault.specs.declared.event.Event.{Event}
use Rattle.tg_vault.specs.declared.event.Event.TheVariants as event
use Rattle.tg_vault.specs.declared.event.Answer.{Answer}
use Rattle.tg_vault.specs.declared.event.Answer.TheVariants as answer
use Rattle.tg_collect.specs.declared.note.Note.{Note}
use Rattle.tg_collect.specs.declared.note.Phase.{Phase}
use Rattle.tg_collect.specs.declared.note.Phase.TheVariants.{Idle}
use Rattle.tg_collect.specs.Promise.Stored.{Stored}
use Rattle.tg_collect.specs.Promise.Readings.{held, IsHeldIn, IsRootIn, agents, cycle_bound, pending, phase, slot_count}
use Rattle.tg_collect.specs.Promise.Views.{IsStore, Collected}
use Rattle.tg_collect.specs.Promise.Runs.{StoreRun, start, acts, goes, ends}
use Rattle.tg_collect.specs.Promise.Runs as runs
use Rattle.tg_collect.proofs.RunLemmas.{acted_phase, calls_act, idle_ends_none, known}
use Rattle.tg_vault.specs.Promise.History.{graph_of}
use Rattle.tg_vault.specs.Promise.World.{Run}
use Rattle.tg_vault.specs.Inner.Seen.{graph_seen}
use Rattle.tg_vault.specs.Promise.Contents.{Contents, RunOf, Keeps, graph_now, moment, IsRoot, HasSlot}
use Rattle.tg_vault.specs.Promise.StoreSteps.{SessionStep}
use Rattle.tg_vault.specs.Promise.Course.{Course, VaultStep, IsCoherent}
use Rattle.tg_vault.specs.Promise.Cycles.{phase_after, notes_in, ended_in, IsComplete, IsBounded}
use Rattle.tg_vault.proofs.EdgeLemmas.{label_seen}
use Rattle.tg_vault.proofs.CountLemmas.{next_grows}
use Rattle.tg_vault.proofs.DecidedLemmas.{graph_is, of_graph, root_principal}
use Rattle.tg_vault.proofs.CourseLemmas.{course_run, course_keeps}
use Rattle.tg_vault.proofs.PlaceLemmas.{contains_seat}
use Rattle.tg_vault.proofs.AddedLemmas.{step_adds}

-- what an answer adds to the ends of cycles, and to the collector steps since the last
abbrev ended_of : Answer → ℕ
ended_of (answer.Noted note) = cond note.ended 1 0
ended_of _ = 0

abbrev since_of : ℕ → Answer → ℕ
since_of k (answer.Noted note) = cond note.ended 0 (k + 1)
since_of k _ = k

abbrev since_in : ℕ → List Answer → ℕ
since_in k [] = k
since_in k (a ∷ answers) = since_in (since_of k a) answers

ended_more : (a : Answer) (answers : List Answer) → ended_in (a ∷ answers) ≡ ended_of a + ended_in answers
ended_more (answer.Noted note) answers = sum_by-cons (λ n. cond n.ended 1 0) note (notes_in answers)
ended_more _ answers = omega arith

-- while no cycle ends, each collector step counts
since_grows : (k : ℕ) (answers : List Answer) → ended_in answers ≡ 0 → since_in k answers ≡ k + length (notes_in answers)
since_grows k [] none = omega arith
since_grows k (answer.Noted note ∷ answers) none =
    let more = sum_by-cons (λ (n : Note). cond n.ended 1 0) note (notes_in answers) in
    by note.ended (let sum : cond note.ended 1 0 + ended_in answers ≡ 0 = sym more ∙ none in sum) (since_grows (k + 1) answers) where
      by : (b : Bool) → cond b 1 0 + ended_in answers ≡ 0 → (ended_in answers ≡ 0 → since_in (k + 1) answers ≡ k + 1 + length (notes_in answers)) →
          since_in (cond b 0 (k + 1)) answers ≡ k + suc (length (notes_in answers))
      by true sum rest = absurd (omega arith)
      by false sum rest = rest (omega arith) ∙ (omega arith)
since_grows k (_ ∷ answers) none = since_grows k answers none

-- what is live in what is held depends neither on the next serial nor on who is a principal
leads_held : (s : Stored) (n m : ℕ) (names : List Member) (retired : set.FinSet nat_cmp) (later : List ℕ) (x y : ℕ) → Leads (graph_seen s n names retired) x later y → Leads (held s m) x later y
leads_held s n m names retired [] x y is = is
leads_held s n m names retired (z ∷ zs) x y leads = (ap is_none (sym (label_seen s n m names retired x z)) ∙ leads.0, leads_held s n m names retired zs z y leads.1)

live_held : (s : Stored) (n m : ℕ) (names : List Member) (retired : set.FinSet nat_cmp) (root : ℕ → Type 0) (x : ℕ) → Live (graph_seen s n names retired) root x → Live (held s m) root x
live_held s n m names retired root x live = (live.0, live.1, (live.2.0, (live.2.1.0, leads_held s n m names retired live.2.0 live.0 x live.2.1.1)))

-- next serials never fall
graph_grows : (G : Protection) (es : List Entry) → G.next ≤ (graph_of G es).next
graph_grows G [] = omega arith
graph_grows G (e ∷ es) =
    let first = next_grows G e.actor e.command e.outcome in
    let rest = graph_grows (next_graph G e.actor e.command e.outcome) es in
    omega arith

goes_grow : (v : Contents) (e : Event) (a : Answer) (u : Contents) → VaultStep v e a u → (graph_now v).next ≤ (graph_now u).next
goes_grow v e a u g =
    let adds = step_adds v.limits (moment v) e a (moment u) g.step in
    let same = ap (λ (G : Protection). G.next) adds.graph in
    let grows = graph_grows (graph_now v) adds.added in
    omega arith

module _ (next : ℕ) (first : Stored) (opens : IsStore first) where
  acts_run : (v u : Contents) (ended since : ℕ) → next ≤ (graph_now v).next → StoreRun next first v.store ended since → SessionStep v u → IsStore u.store → StoreRun next first u.store ended since
  acts_run v u ended since low run a store =
      acts v.store u.store ended since run
      (calls_act v.store u.store a.came a.target next (known next first v.store ended since opens run).store store a.acted
      (λ x is. let up = a.next x is in omega arith)
      (λ x is. elim (a.live x is) [ inl live ↦ inl (live_held v.store (graph_now v).next next (graph_now v).names (graph_now v).retired (IsRootIn v.store) x live) | inr above ↦ inr (omega arith) ]))
      store

  -- nothing was collected
  same_counts : (u : Contents) (ended since : ℕ) → StoreRun next first u.store ended since → StoreRun next first u.store (ended + 0) since
  same_counts u ended since run = subst (λ n. StoreRun next first u.store n since) (let e : ended ≡ ended + 0 = omega arith in e) run

  collects_run : (v u : Contents) (note : Note) (ended since : ℕ) → StoreRun next first v.store ended since → Collected v.store u.store note.freed note.ended → IsStore u.store →
      StoreRun next first u.store (ended + cond note.ended 1 0) (cond note.ended 0 (since + 1))
  collects_run v u note ended since run collected store = by note.ended collected where
    by : (b : Bool) → Collected v.store u.store note.freed b → StoreRun next first u.store (ended + cond b 1 0) (cond b 0 (since + 1))
    by true c = ends v.store u.store ended since note.freed run c store
    by false c = subst (λ n. StoreRun next first u.store n (since + 1)) (let e : ended ≡ ended + 0 = omega arith in e) (goes v.store u.store ended since note.freed run c store)

  goes_run : (v : Contents) (e : Event) (a : Answer) (u : Contents) (ended since : ℕ) → next ≤ (graph_now v).next → StoreRun next first v.store ended since → VaultStep v e a u →
      StoreRun next first u.store (ended + ended_of a) (since_of since a)
  goes_run v event.Collect (answer.Noted note) u ended since low run g = collects_run v u note ended since run g.stored.0 g.coherent.store
  goes_run v event.Collect _ u ended since low run g = absurd g.step
  goes_run v _ (answer.Noted note) u ended since low run g = absurd g.step
  goes_run v _ _ u ended since low run g = same_counts u ended since (acts_run v u ended since low run g.stored g.coherent.store)

  course_store : (v : Contents) (es : List Event) (answers : List Answer) (w : Contents) (ended since : ℕ) → next ≤ (graph_now v).next → StoreRun next first v.store ended since → Course v es answers w →
      StoreRun next first w.store (ended + ended_in answers) (since_in since answers)
  course_store v [] [] w ended since low run same =
      subst (λ (s : Stored). StoreRun next first s (ended + 0) since) (sym (ap (λ (k : Contents). k.store) same)) (same_counts v ended since run)
  course_store v (e ∷ es) (a ∷ answers) w ended since low run course =
      let u : Contents = course.0 in
      let up : next ≤ (graph_now u).next = (let grows = goes_grow v e a u course.1 in omega arith) in
      let rest = course_store u es answers w (ended + ended_of a) (since_of since a) up (goes_run v e a u ended since low run course.1) course.2 in
      subst (λ n. StoreRun next first w.store n (since_in (since_of since a) answers)) (let more = ended_more a answers in let same : ended + ended_of a + ended_in answers ≡ ended + ended_in (a ∷ answers) = omega arith in same) rest
  course_store v [] (a ∷ answers) w ended since low run course = absurd course
  course_store v (e ∷ es) [] w ended since low run course = absurd course

-- the course up to an answer, and from it on
pub record Split (v : Contents) (es : List Event) (front rest : List Answer) (w : Contents) : Type 0 where
  pub mid : Contents
  pub before : Course v (take (length front) es) front mid
  pub from : Course mid (drop (length front) es) rest w

split : (v : Contents) (es : List Event) (front rest : List Answer) (w : Contents) → Course v es (front ++ rest) w → Split v es front rest w
split v es [] rest w course = record { mid = v; before = refl; from = course }
split v (e ∷ es) (a ∷ front) rest w course =
    let s = split course.0 es front rest w course.2 in
    record { mid = s.mid; before = (course.0, course.1, s.before); from = s.from }
split v [] (a ∷ front) rest w course = absurd course

-- the phase that the answers report
goes_phase : (v : Contents) (e : Event) (a : Answer) (u : Contents) → VaultStep v e a u → phase u.store ≡ phase_after (phase v.store) (a ∷ [])
goes_phase v event.Collect (answer.Noted note) u g = sym g.stored.1
goes_phase v event.Collect _ u g = absurd g.step
goes_phase v _ (answer.Noted note) u g = absurd g.step
goes_phase v _ _ u g = acted_phase g.stored.acted

phase_on : (p : Phase) (a : Answer) (answers : List Answer) → phase_after (phase_after p (a ∷ [])) answers ≡ phase_after p (a ∷ answers)
phase_on p (answer.Hello x) answers = refl
phase_on p _ answers = refl

course_phase : (v : Contents) (es : List Event) (answers : List Answer) (w : Contents) → Course v es answers w → phase w.store ≡ phase_after (phase v.store) answers
course_phase v [] [] w same = ap (λ (k : Contents). phase k.store) same
course_phase v (e ∷ es) (a ∷ answers) w course =
    course_phase course.0 es answers w course.2 ∙ ap (λ p. phase_after p answers) (goes_phase v e a course.0 course.1) ∙ phase_on (phase v.store) a answers
course_phase v [] (a ∷ answers) w course = absurd course
course_phase v (e ∷ es) [] w course = absurd course

-- each vault of a course is coherent
pub course_coherent : (v : Contents) (es : List Event) (answers : List Answer) (w : Contents) → IsCoherent v → Course v es answers w → IsCoherent w
course_coherent v [] [] w sound same = subst IsCoherent (sym same) sound
course_coherent v (e ∷ es) (a ∷ answers) w sound course = course_coherent course.0 es answers w course.1.coherent course.2
course_coherent v [] (a ∷ answers) w sound course = absurd course
course_coherent v (e ∷ es) [] w sound course = absurd course

-- what is live in what is held is live in the graph
module _ (v : Contents) (s : IsCoherent v) where
  abbrev H : Protection
  H = held v.store (graph_now v).next

  leads_so : (later : List ℕ) (x y : ℕ) → IsVertex H x → Leads H x later y → Leads (graph_now v) x later y
  leads_so [] x y h is = is
  leads_so (z ∷ zs) x y h leads =
      let n = (graph_now v).next in
      let e : IsEdge (graph_now v) x z = ap is_none (s.ties.part.labels x z h ∙ label_seen v.store n n (graph_now v).names (graph_now v).retired x z) ∙ leads.0 in
      (e, leads_so zs z y (s.ties.part.closed x z h e) leads.1)

  root_so : (x : ℕ) → IsRootIn v.store x → IsRoot (moment v).world x
  root_so x (inl principal) = inl (root_principal v s.ties s.store x principal)
  root_so x (inr (inl target)) = let at = contains_seat (pending v.store) x target in inr (at.0, inl at.1)
  root_so x (inr (inr agent)) = let at = contains_seat (agents v.store) x agent in inr (at.0, inr at.1)

  pub live_so : (x : ℕ) → Live H (IsRootIn v.store) x → Live (graph_now v) (IsRoot (moment v).world) x
  live_so x live = (live.0, root_so live.0 live.1, (live.2.0, (of_graph v s.ties s.store live.0 live.2.1.0, leads_so live.2.0 live.0 x live.2.1.0 live.2.1.1)))

  held_below : (x : ℕ) → IsHeldIn v.store x → x < (graph_now v).next
  held_below x h = (graph_is v s.ties s.store).below_next x (of_graph v s.ties s.store x h)

-- a cycle that starts here, and two that end from here on
pub from_idle : runs.StoresAreComplete → (m : Contents) → IsCoherent m → phase m.store ≡ Idle → (after : List Event) (note : Note) (back : List Answer) (w : Contents) → Course m after (answer.Noted note ∷ back) w →
    2 ≤ ended_in (answer.Noted note ∷ back) → (x : ℕ) → HasSlot w x → Live (held m.store (graph_now m).next) (IsRootIn m.store) x ⊎ ((graph_now m).next ≤ x)
from_idle law m sound idle [] note back w course two x slot = absurd course
from_idle law m sound idle (event.Collect ∷ es) note back w course two x slot =
    let u : Contents = course.0 in
    let g : VaultStep m event.Collect (answer.Noted note) u = course.1 in
    let open_end : note.ended ≡ false = idle_ends_none g.stored.0 idle in
    let next = (graph_now m).next in
    let grows = goes_grow m event.Collect (answer.Noted note) u g in
    let run = course_store next u.store g.coherent.store u es back w 0 0 grows start course.2 in
    let more = ended_more (answer.Noted note) back in
    let first : ◌≡◌ {A = ℕ} (cond note.ended 1 0) 0 = ap (λ b. cond b 1 0) open_end in
    law m.store u.store w.store next (0 + ended_in back) (since_in 0 back) note.freed sound.store idle
    (subst (λ b. Collected m.store u.store note.freed b) open_end g.stored.0) g.coherent.store (held_below m sound) run (omega arith) x slot
from_idle law m sound idle _ note back w course two x slot = absurd course.1.step

pub course_complete : runs.StoresAreComplete → (v : Contents) (es : List Event) (answers : List Answer) (w : Contents) → IsCoherent v → Course v es answers w → IsComplete v es answers w
course_complete law v es answers w sound course = λ front back note is idle two.
    let s = split v es front (answer.Noted note ∷ back) w (subst (λ (all : List Answer). Course v es all w) is course) in
    let m : Contents = s.mid in
    let here : IsCoherent m = course_coherent v (take (length front) es) front m sound s.before in
    let kept : Keeps v m = course_keeps v (take (length front) es) front m s.before in
    let quiet : phase m.store ≡ Idle = course_phase v (take (length front) es) front m s.before ∙ idle in
    let rest : RunOf m (drop (length front) es) (answer.Noted note ∷ back) w = course_run m (drop (length front) es) (answer.Noted note ∷ back) w s.from in (
      moment m,
      record {
        before = course_run v (take (length front) es) front m s.before;
        after = subst (λ (l : Limits). Run l (moment m) (drop (length front) es) (answer.Noted note ∷ back) (moment w)) kept.limits rest;
      },
      λ x slot. elim (from_idle law m here quiet (drop (length front) es) note back w s.from two x slot) [
        | inl live ↦ inl (live_so m here x live)
        | inr above ↦ inr above
      ],
    )

pub course_bounded : runs.StoresAreBounded → (v : Contents) (es : List Event) (answers : List Answer) (w : Contents) → IsCoherent v → Course v es answers w → IsBounded v answers
course_bounded law v es answers w sound course = λ front middle back is many.
    let s = split v es front (middle ++ back) w (subst (λ (all : List Answer). Course v es all w) is course) in
    let m : Contents = s.mid in
    let here : IsCoherent m = course_coherent v (take (length front) es) front m sound s.before in
    let kept : Keeps v m = course_keeps v (take (length front) es) front m s.before in
    let t = split m (drop (length front) es) middle back w s.from in
    let low : (graph_now m).next ≤ (graph_now m).next = omega arith in
    let run = course_store (graph_now m).next m.store here.store m (take (length middle) (drop (length front) es)) middle t.mid 0 0 low start t.before in
    let few = law m.store t.mid.store (graph_now m).next (0 + ended_in middle) (since_in 0 middle) here.store run in
    let bound : cycle_bound (slot_count m.store) m.store.cells ≡ cycle_bound v.limits.slots v.limits.cells =
    λ i. cycle_bound ((here.ties.slots ∙ ap (λ (l : Limits). l.slots) kept.limits) i) ((here.ties.cells ∙ ap (λ (l : Limits). l.cells) kept.limits) i) in
    some (ended_in middle) refl (since_in 0 middle) (length (notes_in middle)) (cycle_bound v.limits.slots v.limits.cells) many
    (subst (λ n. since_in 0 middle < n) bound few) (λ none. since_grows 0 middle none) where
      some : (n : ℕ) → n ≡ n → (since steps most : ℕ) → most ≤ steps → since < most → (n ≡ 0 → since ≡ 0 + steps) → 1 ≤ n
      some zero same since steps most many few grows = let all = grows refl in absurd (omega arith)
      some (suc n) same since steps most many few grows = omega arith
