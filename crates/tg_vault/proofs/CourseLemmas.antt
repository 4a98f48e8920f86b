-- Courses with one more event, what the headline says of them, and the run that they make.
use Rattle.std.proofs.Common.{◌≡◌, ℕ, ◌+◌, ◌<◌, List, [], ◌∷◌, ◌++◌, length, take, get_or, length-append, refl, sym, ap, subst, ◌∙◌}
use Rattle.std.proofs.lemmas.List.{take_more}
use Rattle.tg_vault.specs.declared.event.Event.{Event}
use Rattle.tg_vault.specs.declared.event.Event.TheVariants as event
use Rattle.tg_vault.specs.declared.event.Answer.{Answer}
use Rattle.tg_vault.specs.declared.event.Answer.TheVariants as answer
use Rattle.tg_collect.specs.declared.note.Phase.{Phase}
use Rattle.tg_collect.specs.Promise.Readings.{PhaseTurns, phase}
use Rattle.tg_collect.proofs.RunLemmas.{acted_phase, collected_turns}
use Rattle.tg_graph.specs.Promise.Fullness.{Limits}
use Rattle.tg_vault.specs.Promise.World.{Run}
use Rattle.tg_vault.specs.Promise.Contents.{Contents, RunOf, Keeps, moment, Fits}
use Rattle.tg_vault.specs.Promise.Course.{Course, VaultStep}
use Rattle.tg_vault.specs.Promise.StoreSteps.{StoreStep}
use Rattle.tg_vault.specs.Promise.Headline.{EventCourse, PhaseStep}

pub keeps_on : (old mid new : Contents) → Keeps old mid → Keeps mid new → Keeps old new
keeps_on old mid new first next = record { opening = next.opening ∙ first.opening; limits = next.limits ∙ first.limits; key = next.key ∙ first.key }

pub course_more : (v : Contents) (es : List Event) (answers : List Answer) (w : Contents) (e : Event) (a : Answer) (u : Contents) → Course v es answers w → VaultStep w e a u → Course v (es ++ e ∷ []) (answers ++ a ∷ []) u
course_more v [] [] w e a u same goes = (u, (let P : Contents → Type 0 = λ k. VaultStep k e a u in subst P same goes), refl)
course_more v (x ∷ es) (b ∷ answers) w e a u course goes = (course.0, course.1, course_more course.0 es answers w e a u course.2 goes)
course_more v [] (b ∷ answers) w e a u course goes = absurd course
course_more v (x ∷ es) [] w e a u course goes = absurd course

pub course_longer : (old mid new : Contents) (es : List Event) (answers longer : List Answer) (k : ℕ) (e : Event) (a : Answer) →
    Course old (take k es) answers mid → VaultStep mid e a new → k < length es → e ≡ get_or es k e → longer ≡ answers ++ a ∷ [] → Course old (take (k + 1) es) longer new
course_longer old mid new es answers longer k e a course goes within is more =
    let events : take (k + 1) es ≡ take k es ++ e ∷ [] = take_more es k e within ∙ ap (λ d. take k es ++ d ∷ []) (sym is) in
    let whole : Course old (take k es ++ e ∷ []) (answers ++ a ∷ []) new = course_more old (take k es) answers mid e a new course goes in
    subst (λ all. Course old (take (k + 1) es) all new) (sym more) (subst (λ es. Course old es (answers ++ a ∷ []) new) (sym events) whole)

pub one_more : (answers : List Answer) (a : Answer) → length (answers ++ a ∷ []) ≡ length answers + 1
one_more answers a = length-append answers (a ∷ [])

-- one course after another
pub course_append : (u v w : Contents) (es fs : List Event) (answers more : List Answer) → Course u es answers v → Course v fs more w → Course u (es ++ fs) (answers ++ more) w
course_append u v w [] fs [] more first then = subst (λ k. Course k fs more w) first then
course_append u v w (e ∷ es) fs (a ∷ answers) more first then = (first.0, first.1, course_append first.0 v w es fs answers more first.2 then)
course_append u v w [] fs (a ∷ answers) more first then = absurd first
course_append u v w (e ∷ es) fs [] more first then = absurd first

-- what an event does to the phase
phase_step : (old : Contents) (e : Event) (a : Answer) (new : Contents) → StoreStep old e a new → PhaseStep old e a new
phase_step old event.Collect (answer.Noted note) new s =
    let turns : PhaseTurns (phase old.store) (phase new.store) note.ended = collected_turns s.0 in
    (s.1, subst (λ (p : Phase). PhaseTurns (phase old.store) p note.ended) (sym s.1) turns)
phase_step old event.Collect _ new s = absurd s
phase_step old _ a new s = acted_phase s.acted

-- what the headline says of a course
pub course_events : (v : Contents) (es : List Event) (answers : List Answer) (w : Contents) → Course v es answers w → EventCourse v es answers w
course_events v [] [] w same = same
course_events v (e ∷ es) (a ∷ answers) w course =
    let goes : VaultStep v e a course.0 = course.1 in
    (course.0, record { step = goes.step; keeps = goes.keeps; turns = phase_step v e a course.0 goes.stored; told = goes.told; fits = goes.fits }, course_events course.0 es answers w course.2)
course_events v [] (a ∷ answers) w course = absurd course
course_events v (e ∷ es) [] w course = absurd course

-- by that alone it is a run of the world, which keeps what no event changes, and its end fits if its beginning does
events_run : (v : Contents) (es : List Event) (answers : List Answer) (w : Contents) → EventCourse v es answers w → RunOf v es answers w
events_run v [] [] w same = ap moment same
events_run v (e ∷ es) (a ∷ answers) w course =
    let u : Contents = course.0 in
    let rest : RunOf u es answers w = events_run u es answers w course.2 in
    (moment u, course.1.step, subst (λ (l : Limits). Run l (moment u) es answers (moment w)) course.1.keeps.limits rest)
events_run v [] (a ∷ answers) w course = absurd course
events_run v (e ∷ es) [] w course = absurd course

events_keep : (v : Contents) (es : List Event) (answers : List Answer) (w : Contents) → EventCourse v es answers w → Keeps v w
events_keep v [] [] w same = record { opening = ap (λ (k : Contents). k.opening) same; limits = ap (λ (k : Contents). k.limits) same; key = ap (λ (k : Contents). k.store.key) same }
events_keep v (e ∷ es) (a ∷ answers) w course = keeps_on v course.0 w course.1.keeps (events_keep course.0 es answers w course.2)
events_keep v [] (a ∷ answers) w course = absurd course
events_keep v (e ∷ es) [] w course = absurd course

pub events_fit : (v : Contents) (es : List Event) (answers : List Answer) (w : Contents) → Fits v → EventCourse v es answers w → Fits w
events_fit v [] [] w fits same = subst Fits (sym same) fits
events_fit v (e ∷ es) (a ∷ answers) w fits course = events_fit course.0 es answers w course.1.fits course.2
events_fit v [] (a ∷ answers) w fits course = absurd course
events_fit v (e ∷ es) [] w fits course = absurd course

pub course_run : (v : Contents) (es : List Event) (answers : List Answer) (w : Contents) → Course v es answers w → RunOf v es answers w
course_run v es answers w course = events_run v es answers w (course_events v es answers w course)

pub course_keeps : (v : Contents) (es : List Event) (answers : List Answer) (w : Contents) → Course v es answers w → Keeps v w
course_keeps v es answers w course = events_keep v es answers w (course_events v es answers w course)
