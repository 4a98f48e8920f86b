-- what a run does for a line
use Rattle.std.specs.Prelude.{◌≡◌, ℕ, List, Bool, true, false, Option, ◌⊎◌}
use Rattle.tg_vault.specs.Promise.Contents.{Contents, Keeps}
use Rattle.tg_collect.specs.declared.note.Swept.{Swept}
use Rattle.tg_wire.specs.Promise.Answers.{swept_line}
use Rattle.tg_wire.specs.Promise.Faults.{fault_line}
use Rattle.tg_wire.specs.declared.fault.WireFault.TheVariants as wire
use Rattle.tg_talk.specs.Promise.Devices.{SendsLast}
use Rattle.tg_talk.specs.Promise.InputLines.{lines_of}
use Rattle.tg_talk.specs.Promise.Answering.{Saying, goes_on, closes, unanswered}
use Rattle.tg_talk.specs.declared.answering.Finished.{Finished}
use Rattle.tgdoc.specs.Promise.Runs.{AnsweredEvents, Telling, VaultRan, LineAnswer}
use Rattle.tgdoc.specs.declared.answer.Runner.{Runner}

-- the text is the line of what a cycle did, or that of `out of memory`
abbrev pub TellsSwept : Swept → List ℕ → Bool → Type 0
TellsSwept swept text is_wrong = ((text ≡ swept_line swept) × (is_wrong ≡ false)) ⊎ ((text ≡ fault_line wire.OutOfMemory) × (is_wrong ≡ true))

-- the vault answers a line, for which it carries out some steps
pub record AnswersLine (v : Contents) (line : List ℕ) (after : Contents) (text : List ℕ) (errors : ℕ) : Type 0 where
  pub steps : AnsweredEvents
  pub run : VaultRan v steps after
  pub keeps : Keeps v after
  pub answers : LineAnswer line steps text errors

-- what becomes of a line of a run
abbrev pub RunnerSays : Runner → List ℕ → Saying → Runner → Type 0
RunnerSays old line (goes_on text errors) new = AnswersLine old.vault line new.vault text errors
RunnerSays old line (closes text errors) new = ⊥
RunnerSays old line unanswered new = ⊥

-- the result of the lines after the configuration, if the bytes xs are to come
pub record InputLeft (Told : Telling) (v : Contents) (finished : Finished) (old new : Option (List ℕ)) (failed : Bool) (xs : List ℕ) : Type 0 where
  pub steps : AnsweredEvents
  pub after : Contents
  pub run : VaultRan v steps after
  pub before : List ℕ
  pub last : List ℕ
  pub told : Told v steps after (lines_of xs) finished before last
  pub sent : SendsLast old new failed before last
