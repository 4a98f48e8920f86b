-- what `tgdoc audit` answers to the lines of its input
use Rattle.std.specs.Prelude.{◌≡◌, ℕ, ◌+◌, ◌<◌, ◌≤◌, List, [], ◌∷◌, length, Bool, true, false, Option, Some, None, Result, Ok, Err}
use Rattle.tg_graph.specs.declared.config.Config.{Config}
use Rattle.tg_graph.specs.declared.derivation.Goal.{Goal}
use Rattle.tg_graph.specs.declared.derivation.Step.{Step}
use Rattle.tg_graph.specs.declared.derivation.Verdict.{Verdict}
use Rattle.tg_graph.specs.declared.derivation.Verdict.TheVariants as verdict
use Rattle.tg_graph.specs.Promise.Opening.{first_fault, opening}
use Rattle.tg_graph.specs.Promise.Protection.{Protection}
use Rattle.tg_audit.specs.Promise.Verdicts.{IsVerdict}
use Rattle.tg_wire.specs.Promise.Answers.{verdict_line}
use Rattle.tg_wire.specs.Promise.Configs.{opening_of}
use Rattle.tg_wire.specs.Promise.Lines.{config_of, goal_of, step_of}
use Rattle.tg_wire.specs.Promise.Faults.{fault_line}
use Rattle.tg_wire.specs.declared.fault.WireFault.{WireFault}
use Rattle.tg_wire.specs.declared.fault.WireFault.TheVariants as wire
use Rattle.tg_talk.specs.Promise.Devices.{Sends}
use Rattle.tg_talk.specs.Promise.InputLines.{lines_of}
use Rattle.tg_talk.specs.Promise.Refusals.{too_many_line}
use Rattle.tg_talk.specs.declared.fault.TalkFault.{TalkFault}
use Rattle.tg_talk.specs.declared.fault.TalkFault.TheVariants as talk
use Rattle.tg_talk.specs.Promise.Endings.{EndsOnce}
use Rattle.tg_talk.specs.Promise.Opening.{RefusesOpening}
use Rattle.tg_talk.specs.declared.answering.Finished.{Finished}

-- how an audit ends without a verdict: the lines taken, the text that is answered, and the fault
pub record End : Type 0 where
  pub lines : ℕ
  pub text : List ℕ
  pub fault : Option TalkFault

-- after n lines the audit ends at the next one, which is refused for this; if a line is wanted, no line at all is read
-- as an empty one, which is not JSON, and it is not counted
pub data EndsAt (Refuses : List ℕ → List ℕ → Type 0) (is_wanted : Bool) (n : ℕ) : List (List ℕ) → End → Type 0 where
  -- the reader failed
  stopped : {ls : List (List ℕ)} → EndsAt Refuses is_wanted n ls (record { lines = n; text = []; fault = Some talk.Reading })
  too_many : {l : List ℕ} {ls : List (List ℕ)} → n ≡ 1000000 → EndsAt Refuses is_wanted n (l ∷ ls) (record { lines = n + 1; text = too_many_line; fault = Some talk.TooMany })
  too_long : {l : List ℕ} {ls : List (List ℕ)} → n < 1000000 → 16384 < length l
      → EndsAt Refuses is_wanted n (l ∷ ls) (record { lines = n + 1; text = fault_line wire.TooLong; fault = Some talk.TooLong })
  refused : {l text : List ℕ} {ls : List (List ℕ)} → n < 1000000 → length l ≤ 16384 → Refuses l text → EndsAt Refuses is_wanted n (l ∷ ls) (record { lines = n + 1; text = text; fault = None })
  no_line : is_wanted ≡ true → EndsAt Refuses is_wanted n [] (record { lines = n; text = fault_line wire.NotJson; fault = None })

-- a line that is read in this way is refused with this text
pub data Misreads {A : Type 0} (read : List ℕ → Result A WireFault) (line text : List ℕ) : Type 0 where
  misread : (f : WireFault) → read line ≡ Err f → text ≡ fault_line f → Misreads read line text
  -- no memory to read the line, or to keep what it says
  not_read : text ≡ fault_line wire.OutOfMemory → Misreads read line text

-- the configuration line opens this graph
pub record OpensGraph (G : Protection) (line : List ℕ) : Type 0 where
  pub config : Config
  pub read : config_of line ≡ Ok (opening_of config)
  pub sound : first_fault config ≡ None
  pub opens : G ≡ opening config

-- the line after n others is no longer than a line may be, and says this
pub record IsRead (n : ℕ) (line : List ℕ) (Says : List ℕ → Type 0) : Type 0 where
  pub within : n < 1000000
  pub short : length line ≤ 16384
  pub says : Says line

abbrev pub SaysGoal : Goal → List ℕ → Type 0
SaysGoal goal line = goal_of line ≡ Ok goal

abbrev pub SaysStep : Step → List ℕ → Type 0
SaysStep step line = step_of line ≡ Ok step

-- after n lines, the others are these steps
pub data StepsRead : ℕ → List (List ℕ) → List Step → Type 0 where
  none : {n : ℕ} → StepsRead n [] []
  step : {n : ℕ} {l : List ℕ} {ls : List (List ℕ)} {s : Step} {ss : List Step} → IsRead n l (SaysStep s) → StepsRead (n + 1) ls ss → StepsRead n (l ∷ ls) (s ∷ ss)

-- after n lines, some are steps, and the audit ends at the line after them
pub data EndsInSteps : ℕ → List (List ℕ) → End → Type 0 where
  here : {n : ℕ} {ls : List (List ℕ)} {e : End} → EndsAt (Misreads step_of) false n ls e → EndsInSteps n ls e
  later : {n : ℕ} {l : List ℕ} {ls : List (List ℕ)} {s : Step} {e : End} → IsRead n l (SaysStep s) → EndsInSteps (n + 1) ls e → EndsInSteps n (l ∷ ls) e

-- a configuration line, a goal line, and lines of steps
pub record AuditRead (lines : List (List ℕ)) (G : Protection) (goal : Goal) (steps : List Step) : Type 0 where
  pub first : List ℕ
  pub second : List ℕ
  pub others : List (List ℕ)
  pub are : lines ≡ first ∷ second ∷ others
  pub opens : IsRead 0 first (OpensGraph G)
  pub aims : IsRead 1 second (SaysGoal goal)
  pub rest : StepsRead 2 others steps

-- an audit of these lines ends without a verdict
pub data EndsEarly : List (List ℕ) → End → Type 0 where
  at_configuration : {ls : List (List ℕ)} {e : End} → EndsAt RefusesOpening true 0 ls e → EndsEarly ls e
  at_goal : {l : List ℕ} {ls : List (List ℕ)} {e : End} (G : Protection) → IsRead 0 l (OpensGraph G) → EndsAt (Misreads goal_of) true 1 ls e → EndsEarly (l ∷ ls) e
  in_steps : {l k : List ℕ} {ls : List (List ℕ)} {e : End} (G : Protection) (goal : Goal) → IsRead 0 l (OpensGraph G) → IsRead 1 k (SaysGoal goal) → EndsInSteps 2 ls e → EndsEarly (l ∷ k ∷ ls) e
  -- no memory to judge the steps, or for the verdict's line
  unjudged : {ls : List (List ℕ)} (G : Protection) (goal : Goal) (steps : List Step) → AuditRead ls G goal steps
      → EndsEarly ls (record { lines = length ls; text = fault_line wire.OutOfMemory; fault = None })

abbrev pub verdict_errors : Verdict → ℕ
verdict_errors verdict.Shared = 0
verdict_errors (verdict.ActorNotSubject index) = 1
verdict_errors (verdict.StepDenied index rule cause) = 1
verdict_errors (verdict.StepFull index) = 1
verdict_errors (verdict.GoalMissing rights) = 1

-- each end without a verdict answers an `error` line, except after a failed read, when nothing is answered
abbrev pub end_errors : Option TalkFault → ℕ
end_errors (Some talk.Reading) = 0
end_errors f = 1

-- an audit of the lines of its input: how it finishes if no write fails, and the text that it answers
pub data LinesAudited : List (List ℕ) → Finished → List ℕ → Type 0 where
  -- no memory for the lines: none is taken
  no_buffer : {ls : List (List ℕ)} → LinesAudited ls (record { lines = 0; errors = 0; fault = Some talk.OutOfMemory }) []
  ended : {ls : List (List ℕ)} (e : End) → EndsEarly ls e → LinesAudited ls (record { lines = e.lines; errors = end_errors e.fault; fault = e.fault }) e.text
  -- every line was read: the verdict on the steps
  judged : {ls : List (List ℕ)} (G : Protection) (goal : Goal) (steps : List Step) (v : Verdict) → AuditRead ls G goal steps → IsVerdict G steps goal v
      → LinesAudited ls (record { lines = length ls; errors = verdict_errors v; fault = None }) (verdict_line v)

-- an audit if the reader has the bytes input: it finishes in this way, a failed write aside, and the writer then holds
-- all of the text, or, if it failed, a prefix of it
pub record BytesAudited (finished : Finished) (old new : Option (List ℕ)) (failed : Bool) (input : List ℕ) : Type 0 where
  pub whole : Finished
  pub text : List ℕ
  pub audited : LinesAudited (lines_of input) whole text
  pub lines : finished.lines ≡ whole.lines
  pub errors : finished.errors ≡ whole.errors
  pub fault : EndsOnce whole.fault failed finished.fault
  pub sent : Sends old new failed text
