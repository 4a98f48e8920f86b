-- what `tgdoc run` answers to the lines of its input
use Rattle.std.specs.Prelude.{◌≡◌, ℕ, ◌+◌, ◌<◌, ◌≤◌, List, [], ◌∷◌, ◌++◌, length, map, sum_by, All, true, false, Bool, Option, Some, None, Ok, Err, if◌then◌else◌}
use Rattle.tg_collect.specs.declared.note.Note.{Note}
use Rattle.tg_graph.specs.declared.config.Config.{Config}
use Rattle.tg_graph.specs.Promise.Opening.{first_fault}
use Rattle.tg_vault.specs.declared.event.Event.{Event}
use Rattle.tg_vault.specs.declared.event.Event.TheVariants.{Collect}
use Rattle.tg_vault.specs.declared.event.Answer.{Answer}
use Rattle.tg_vault.specs.declared.event.Answer.TheVariants.{Noted}
use Rattle.tg_collect.specs.declared.note.Swept.{Swept}
use Rattle.tg_vault.specs.Promise.Contents.{Contents, IsFresh}
use Rattle.tg_talk.specs.Promise.Opening.{RefusesOpening}
use Rattle.tg_vault.specs.Promise.Course.{Course}
use Rattle.tg_vault.specs.Promise.Cycles.{IsBounded}
use Rattle.tg_vault.specs.Promise.Headline.{Headline}
use Rattle.tg_wire.specs.Promise.Configs.{opening_of}
use Rattle.tg_wire.specs.Promise.Lines.{line_of, config_of}
use Rattle.tg_wire.specs.Promise.Answers.{answer_line, swept_line, is_error}
use Rattle.tg_wire.specs.Promise.Faults.{fault_line}
use Rattle.tg_wire.specs.declared.line.Line.TheVariants.{Act, Cycle}
use Rattle.tg_wire.specs.declared.fault.WireFault.{WireFault}
use Rattle.tg_wire.specs.declared.fault.WireFault.TheVariants as wire
use Rattle.tg_talk.specs.Promise.Devices.{SendsLast}
use Rattle.tg_talk.specs.Promise.Endings.{IsFault, EndsThere}
use Rattle.tg_talk.specs.Promise.InputLines.{lines_of}
use Rattle.tg_talk.specs.Promise.Answering.{Saying, goes_on, closes, unanswered, LinesAnswered}
use Rattle.tg_talk.specs.declared.fault.TalkFault.{TalkFault}
use Rattle.tg_talk.specs.declared.fault.TalkFault.TheVariants as talk
use Rattle.tg_talk.specs.declared.answering.Finished.{Finished}

-- events that the vault carried out, each with its answer
abbrev pub AnsweredEvents : Type 0
AnsweredEvents = List (Event × Answer)

-- they are a run of the vault: a vault in between for each two, which fits
abbrev pub VaultRan : Contents → AnsweredEvents → Contents → Type 0
VaultRan old steps new = Course old (map (λ s. s.0) steps) (map (λ s. s.1) steps) new

-- the promise holds of all that the vault carried out, which is a run: the headline, and the bound on the steps of a
-- cycle
pub record RunHasHeadline (start : Contents) (steps : AnsweredEvents) (after : Contents) : Type 0 where
  pub run : VaultRan start steps after
  pub headline : Headline start (map (λ s. s.0) steps) (map (λ s. s.1) steps) after
  pub bounded : IsBounded start (map (λ s. s.1) steps)

-- how many `error` lines the line of an answer counts as
abbrev pub error_count : Answer → ℕ
error_count a = if is_error a then 1 else 0

-- collector steps, each with its note
abbrev pub collects : List Note → AnsweredEvents
collects notes = map (λ n. (Collect, Noted n)) notes

-- these are collector steps up to the first that ends a cycle, and their sums
pub record Sweeps (steps : AnsweredEvents) (swept : Swept) : Type 0 where
  pub notes : List Note
  pub last : Note
  pub are : steps ≡ collects (notes ++ last ∷ [])
  pub none : All (λ n. n.ended ≡ false) notes
  pub ended : last.ended ≡ true
  pub freed : swept.freed ≡ sum_by (λ n. n.freed) (notes ++ last ∷ [])
  pub count : swept.steps ≡ length notes + 1

-- the answer to a line: what the vault carried out for it, the text, and how many `error` lines that is
pub data LineAnswer (line : List ℕ) (steps : AnsweredEvents) (text : List ℕ) (errors : ℕ) : Type 0 where
  carried_out : (event : Event) (answer : Answer) → line_of line ≡ Ok (Act event) → steps ≡ (event, answer) ∷ [] → text ≡ answer_line answer → errors ≡ error_count answer → LineAnswer line steps text errors
  -- a cycle line means the collector steps that end a cycle
  swept : (s : Swept) → line_of line ≡ Ok Cycle → Sweeps steps s → text ≡ swept_line s → errors ≡ 0 → LineAnswer line steps text errors
  refused : (f : WireFault) → line_of line ≡ Err f → steps ≡ [] → text ≡ fault_line f → errors ≡ 1 → LineAnswer line steps text errors
  -- no memory to read the line: nothing was carried out
  not_carried_out : steps ≡ [] → text ≡ fault_line wire.OutOfMemory → errors ≡ 1 → LineAnswer line steps text errors
  -- no memory for the line of the answer
  not_told : (event : Event) (answer : Answer) → line_of line ≡ Ok (Act event) → steps ≡ (event, answer) ∷ [] → text ≡ fault_line wire.OutOfMemory → errors ≡ 1 → LineAnswer line steps text errors
  swept_not_told : (s : Swept) → line_of line ≡ Ok Cycle → Sweeps steps s → text ≡ fault_line wire.OutOfMemory → errors ≡ 1 → LineAnswer line steps text errors

-- what becomes of a line of a run: what the vault carries out for it, after all that it carried out before, and the
-- answer; every line has one, and none is the last
abbrev pub RunSays : AnsweredEvents → List ℕ → Saying → AnsweredEvents → Type 0
RunSays before line (goes_on text errors) after = (steps : AnsweredEvents) × (after ≡ before ++ steps) × LineAnswer line steps text errors
RunSays before line (closes text errors) after = ⊥
RunSays before line unanswered after = ⊥

-- what is told of the lines after the configuration: of a vault at the start, the events that were carried out with
-- their answers, and the vault at the end, how the run finishes, the text before the last one, and the last
abbrev pub Telling : Type 1
Telling = Contents → AnsweredEvents → Contents → List (List ℕ) → Finished → List ℕ → List ℕ → Type 0

-- each line is answered
abbrev pub AnswersTold : Telling
AnswersTold start steps after ls finished before last = LinesAnswered RunSays [] 1 0 ls steps finished.fault finished.lines finished.errors before last

-- a run over the lines of its input, the first of which is the configuration: how it finishes, the text of what is told
-- before the last one, and that of the last
pub data InputRun (Told : Telling) : List (List ℕ) → Finished → List ℕ → List ℕ → Type 0 where
  -- no memory for the lines: none is taken
  no_buffer : {ls : List (List ℕ)} → InputRun Told ls (record { lines = 0; errors = 0; fault = Some talk.OutOfMemory }) [] []
  -- the reader failed before a line came
  stopped : {ls : List (List ℕ)} → InputRun Told ls (record { lines = 0; errors = 0; fault = Some talk.Reading }) [] []
  -- no line at all is read as an empty one, and does not count
  no_line : {text : List ℕ} {f : Option TalkFault} → RefusesOpening [] text → EndsThere f → InputRun Told [] (record { lines = 0; errors = 1; fault = f }) [] text
  too_long : {l : List ℕ} {ls : List (List ℕ)} {f : Option TalkFault} → 16384 < length l → IsFault talk.TooLong f
      → InputRun Told (l ∷ ls) (record { lines = 1; errors = 1; fault = f }) [] (fault_line wire.TooLong)
  refused : {l text : List ℕ} {ls : List (List ℕ)} {f : Option TalkFault} → length l ≤ 16384 → RefusesOpening l text → EndsThere f
      → InputRun Told (l ∷ ls) (record { lines = 1; errors = 1; fault = f }) [] text
  -- the events of the other lines, a cycle line meaning its collector steps, are a run of a vault that the
  -- configuration opens, with the headline of all of them
  opened : {l before last : List ℕ} {ls : List (List ℕ)} {finished : Finished} (c : Config) (start : Contents) (steps : AnsweredEvents) (after : Contents) → length l ≤ 16384
      → config_of l ≡ Ok (opening_of c) → first_fault c ≡ None → IsFresh c start → RunHasHeadline start steps after → Told start steps after ls finished before last
      → InputRun Told (l ∷ ls) finished before last

-- what a whole run does if the reader has the bytes input: it tells what a run over the lines of the input does, and
-- the writer then holds all of it before the last one, and all of the last, or, if it failed, a prefix of it
pub record InputRan (Told : Telling) (finished : Finished) (old new : Option (List ℕ)) (failed : Bool) (input : List ℕ) : Type 0 where
  pub before : List ℕ
  pub last : List ℕ
  pub run : InputRun Told (lines_of input) finished before last
  pub sent : SendsLast old new failed before last

-- a run that answers each line
abbrev pub LinesRan : Finished → (old new : Option (List ℕ)) (failed : Bool) → List ℕ → Type 0
LinesRan finished old new failed = InputRan AnswersTold finished old new failed
