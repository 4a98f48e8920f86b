-- Runs, audits, pictures and questions in other words.
use Rattle.std.proofs.Common.{◌≡◌, ℕ, ◌+◌, Bool, List, [], ◌∷◌, ◌++◌, None, Some, Ok, Err, ◌⊎◌, inl, inr, if◌then◌else◌, refl, sym, ap, subst, ◌∙◌, arith}
use Rattle.tg_graph.specs.declared.derivation.Goal.{Goal}
use Rattle.tg_graph.specs.declared.derivation.Step.{Step}
use Rattle.tg_graph.specs.declared.derivation.Verdict.{Verdict}
use Rattle.tg_graph.specs.declared.derivation.Verdict.TheVariants as verdict
use Rattle.tg_graph.specs.Promise.Derivations.{CanShare}
use Rattle.tg_graph.specs.Promise.Protection.{IsVertex, Protection}
use Rattle.tg_collect.specs.declared.note.Note.{Note}
use Rattle.tg_vault.specs.declared.event.Event.{Event}
use Rattle.tg_vault.specs.declared.event.Event.TheVariants as event
use Rattle.tg_vault.specs.declared.event.Answer.{Answer}
use Rattle.tg_vault.specs.declared.event.Answer.TheVariants as answer
use Rattle.tg_collect.specs.declared.note.Swept.{Swept}
use Rattle.tg_vault.specs.Promise.Contents.{Contents, graph_now}
use Rattle.tg_audit.specs.Promise.Verdicts.{IsMet, IsVerdict}
use Rattle.tg_wire.specs.Promise.Configs.{opening_of}
use Rattle.tg_wire.specs.Promise.Lines.{line_of}
use Rattle.tg_wire.specs.Promise.Answers.{answer_line, swept_line, verdict_line}
use Rattle.tg_wire.specs.Promise.Faults.{fault_line}
use Rattle.tg_wire.specs.declared.line.Line.TheVariants.{Act, Cycle}
use Rattle.tg_wire.specs.declared.fault.WireFault.TheVariants as wire
use Rattle.tgdoc.specs.Promise.Audits.{AuditRead, end_errors, verdict_errors}
use Rattle.tgdoc.specs.Promise.Audits as audits
use Rattle.tgdoc.specs.Promise.Drawings.{Pictured, drawn, not_drawn}
use Rattle.tgdoc.specs.Promise.Meanings.{AuditsShow, IsTold, LinesHaveMeanings, PicturesCount, RunsBegin, SharingIsShown, WordsHaveMeanings}
use Rattle.tgdoc.specs.Promise.Named.{Names, NamesNone, no_principal, no_vertex}
use Rattle.tgdoc.specs.Promise.Runs as runs
use Rattle.tgdoc.specs.Promise.Runs.{AnsweredEvents, LineAnswer, Sweeps, collects}
use Rattle.tgdoc.specs.Promise.Sharing as sharing
use Rattle.tgdoc.specs.Promise.Sharing.{IsGoalOf, Shows}
use Rattle.tgdoc.specs.declared.question.Pair.{Pair}
use Rattle.tgdoc.specs.declared.question.VertexName.{VertexName}
use Rattle.tgdoc.specs.declared.question.VertexName.TheVariants.{Principal, Serial}

-- a line means one thing
apart : {P : Type 0} (line : List ℕ) (e : Event) → line_of line ≡ Ok (Act e) → line_of line ≡ Ok Cycle → P
apart line e acts cycles = let same : Ok (Act e) ≡ Ok Cycle = sym acts ∙ cycles in absurd (cc same)

same_event : (line : List ℕ) (wanted done other : Event) (answer another : Answer) → line_of line ≡ Ok (Act wanted) → line_of line ≡ Ok (Act other)
    → ◌≡◌ {A = AnsweredEvents} ((done, answer) ∷ []) ((other, another) ∷ []) → done ≡ wanted
same_event line wanted done other answer another reads read is =
    let acts : Ok (Act other) ≡ Ok (Act wanted) = sym read ∙ reads in
    let asks : other ≡ wanted = cc acts in
    let here : ◌≡◌ {A = Event × Answer} (done, answer) (other, another) = cc is in
    ap (λ (p : Event × Answer). p.0) here ∙ asks

same_answer : (done other : Event) (answer another : Answer) → ◌≡◌ {A = AnsweredEvents} ((done, answer) ∷ []) ((other, another) ∷ []) → another ≡ answer
same_answer done other answer another is = let here : ◌≡◌ {A = Event × Answer} (done, answer) (other, another) = cc is in ap (λ (p : Event × Answer). p.1) (sym here)

asked : (line text : List ℕ) (errors : ℕ) (wanted done : Event) (answer : Answer) → line_of line ≡ Ok (Act wanted) → LineAnswer line ((done, answer) ∷ []) text errors → (done ≡ wanted) × IsTold (answer_line answer) text
asked line text errors wanted done answer reads (runs.carried_out other another read is text_is errors_is) =
    (same_event line wanted done other answer another reads read is, inl (text_is ∙ ap answer_line (same_answer done other answer another is)))
asked line text errors wanted done answer reads (runs.swept s read are text_is errors_is) = apart line wanted reads read
asked line text errors wanted done answer reads (runs.refused f read is text_is errors_is) = absurd (cc is)
asked line text errors wanted done answer reads (runs.not_carried_out is text_is errors_is) = absurd (cc is)
asked line text errors wanted done answer reads (runs.not_told other another read is text_is errors_is) = (same_event line wanted done other answer another reads read is, inr text_is)
asked line text errors wanted done answer reads (runs.swept_not_told s read are text_is errors_is) = apart line wanted reads read

-- one collector step that ends a cycle, and its sums
one_note : (notes : List Note) (last note : Note) → ◌≡◌ {A = AnsweredEvents} ((event.Collect, answer.Noted note) ∷ []) (collects (notes ++ last ∷ [])) → (notes ≡ []) × (last ≡ note)
one_note [] last note is =
    let here : answer.Noted last ≡ answer.Noted note = same_answer event.Collect event.Collect (answer.Noted note) (answer.Noted last) is in
    (refl, cc here)
one_note (n ∷ []) last note is = absurd (cc is)
one_note (n ∷ m ∷ notes) last note is = absurd (cc is)

swept_by : (note : Note) (s : Swept) → Sweeps ((event.Collect, answer.Noted note) ∷ []) s → s ≡ record { freed = note.freed; steps = 1 }
swept_by note s sweeps =
    let one = one_note sweeps.notes sweeps.last note sweeps.are in
    let freed : s.freed ≡ 0 + note.freed = sweeps.freed ∙ rw (one.0, one.1) refl in
    let steps : s.steps ≡ 1 = sweeps.count ∙ rw one.0 refl in
    let same : s.freed ≡ note.freed = omega (arith, freed) in λ i. record { freed = same i; steps = steps i }

swept : (line text : List ℕ) (errors : ℕ) (note : Note) → line_of line ≡ Ok Cycle → LineAnswer line ((event.Collect, answer.Noted note) ∷ []) text errors → IsTold (swept_line (record { freed = note.freed; steps = 1 })) text
swept line text errors note reads (runs.carried_out other another read is text_is errors_is) = apart line other read reads
swept line text errors note reads (runs.swept s read are text_is errors_is) = inl (text_is ∙ ap swept_line (swept_by note s are))
swept line text errors note reads (runs.refused f read is text_is errors_is) = absurd (cc is)
swept line text errors note reads (runs.not_carried_out is text_is errors_is) = absurd (cc is)
swept line text errors note reads (runs.not_told other another read is text_is errors_is) = inr text_is
swept line text errors note reads (runs.swept_not_told s read are text_is errors_is) = inr text_is

pub lines_mean : LinesHaveMeanings
lines_mean line text errors = record { asked = asked line text errors; swept = swept line text errors }

pub runs_begin : RunsBegin
runs_begin l ls finished before last f runs.no_buffer wrong = refl
runs_begin l ls finished before last f runs.stopped wrong = refl
runs_begin l ls finished before last f (runs.too_long long ends) wrong = refl
runs_begin l ls finished before last f (runs.refused short refuses ends) wrong = refl
runs_begin l ls finished before last f (runs.opened c start steps after short read sound fresh headline told) wrong =
    let e : Ok (opening_of c) ≡ Err f = sym read ∙ wrong in absurd (cc e)

abbrev HasShown : List (List ℕ) → List ℕ → Type 0
HasShown ls text = (G : Protection) × (goal : Goal) × (steps : List Step) × AuditRead ls G goal steps × IsMet G steps goal × (text ≡ verdict_line verdict.Shared)

shown : (ls : List (List ℕ)) (G : Protection) (goal : Goal) (steps : List Step) (v : Verdict) → AuditRead ls G goal steps → IsVerdict G steps goal v → verdict_errors v ≡ 0 → HasShown ls (verdict_line v)
shown ls G goal steps verdict.Shared read met none = (G, goal, steps, read, met, refl)
shown ls G goal steps (verdict.ActorNotSubject index) read stops none = absurd (cc none)
shown ls G goal steps (verdict.StepDenied index rule cause) read stops none = absurd (cc none)
shown ls G goal steps (verdict.StepFull index) read stops none = absurd (cc none)
shown ls G goal steps (verdict.GoalMissing rights) read lacks none = absurd (cc none)

pub audits_show : AuditsShow
audits_show ls _ _ audits.no_buffer sound none = absurd (cc sound)
audits_show ls _ _ (audits.ended e early) sound none = (let one : 1 ≡ 0 = sym (ap end_errors sound) ∙ none in absurd (cc one))
audits_show ls _ _ (audits.judged G goal steps v read is) sound none = shown ls G goal steps v read is none

pictured : (v : Contents) (label text : List ℕ) (lacks : Bool) (count : ℕ) → Pictured v label text lacks → (text ≡ fault_line wire.OutOfMemory) ⊎ ((if lacks then 1 else count) ≡ count)
pictured v label text lacks count (drawn draws) = inr refl
pictured v label text lacks count (not_drawn is) = inl is

pub pictures_count : PicturesCount
pictures_count v line answer text count errors d = elim (pictured v _ text d.lacks count d.pictured) [ inl is ↦ inl is | inr same ↦ inr (d.counted ∙ same) ]

named_once : (G : Protection) (word : VertexName) (x y : ℕ) → Names G word x → Names G word y → x ≡ y
named_once G (Serial n) x y a b = a.0 ∙ sym b.0
named_once G (Principal name) x y a b = let same : Some x ≡ Some y = sym a.0 ∙ b.0 in cc same

pub words_mean : WordsHaveMeanings
words_mean G = record { seat_left = λ workers connections round operating r. (let few = r.few_workers in omega (arith, few)); once = named_once G }

-- a word that names a vertex does not name none
names_some : {P : Type 0} (G : Protection) (word : VertexName) (x : ℕ) (text : List ℕ) → Names G word x → NamesNone G word text → P
names_some G (Serial n) x text names (no_vertex none is) = absurd (none (subst (IsVertex G) names.0 names.1))
names_some G (Principal name) x text names (no_principal none is) = let some : Some x ≡ None = sym names.0 ∙ none in absurd (cc some)

one_goal : (G : Protection) (q : Pair) (goal other : Goal) → IsGoalOf G q goal → IsGoalOf G q other → goal ≡ other
one_goal G q goal other a b =
    let from = named_once G q.from goal.from other.from a.from b.from in
    let to = named_once G q.to goal.to other.to a.to b.to in
    let rights : goal.rights ≡ other.rights = a.rights ∙ sym b.rights in
    λ i. record { from = from i; to = to i; rights = rights i }

pub sharing_is_shown : SharingIsShown
sharing_is_shown v q goal text is_error (sharing.no_from none) asks can = names_some (graph_now v) q.from goal.from text asks.from none
sharing_is_shown v q goal text is_error (sharing.no_to x names none) asks can = names_some (graph_now v) q.to goal.to text asks.to none
sharing_is_shown v q goal text is_error (sharing.never other is cannot is_text) asks can =
    absurd (cannot (subst (λ (g : Goal). CanShare (graph_now v) g) (one_goal (graph_now v) q goal other asks is) can))
sharing_is_shown v q goal text is_error (sharing.no_serial other steps reached is derived over is_text) asks can = inr (inl (steps, reached, derived, over))
sharing_is_shown v q goal text is_error (sharing.shared other is shows) asks can =
    inl (subst (λ (g : Goal). Shows q.steps v g text) (one_goal (graph_now v) q other goal is asks) shows)
sharing_is_shown v q goal text is_error (sharing.not_answered is) asks can = inr (inr is)
