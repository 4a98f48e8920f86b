-- the parts of an audit
use Rattle.std.specs.Prelude.{◌≡◌, ℕ, ◌+◌, ◌≤◌, List, [], length, Bool, true, false, Option, Some, None, IfSome, ◌⊎◌}
use Rattle.std.specs.Io.KnownBytes.{prepend_known}
use Rattle.tg_graph.specs.declared.derivation.Goal.{Goal}
use Rattle.tg_graph.specs.declared.derivation.Step.{Step}
use Rattle.tg_graph.specs.declared.derivation.Verdict.{Verdict}
use Rattle.tg_graph.specs.Promise.Protection.{Protection}
use Rattle.tg_audit.specs.Promise.Verdicts.{IsVerdict}
use Rattle.tg_wire.specs.Promise.Answers.{verdict_line}
use Rattle.tg_wire.specs.Promise.Faults.{fault_line, open_fault_line}
use Rattle.tg_wire.specs.declared.fault.WireFault.TheVariants as wire
use Rattle.tg_talk.specs.Promise.InputLines.{lines_of}
use Rattle.tg_talk.specs.Promise.Refusals.{too_many_line}
use Rattle.tg_talk.specs.Promise.Taking.{Input, TakesLine}
use Rattle.tg_talk.specs.declared.fault.TalkFault.TheVariants as talk
use Rattle.tgdoc.specs.declared.audit.Ending.{Ending}
use Rattle.tgdoc.specs.declared.audit.Ending.TheVariants as ending
use Rattle.tgdoc.specs.Promise.Audits.{AuditRead, End, EndsAt, EndsEarly, EndsInSteps, StepsRead, verdict_errors}

-- the bytes that are to come: those that were read and not taken, and those that the reader has left
abbrev pub unread : Input → Option (List ℕ) → Option (List ℕ)
unread input rest = prepend_known input.left rest

-- an ending after this many lines
abbrev pub end_after : Ending → ℕ → End
end_after ending.Failed n = record { lines = n; text = []; fault = Some talk.Reading }
end_after ending.TooLong n = record { lines = n; text = fault_line wire.TooLong; fault = Some talk.TooLong }
end_after ending.TooMany n = record { lines = n; text = too_many_line; fault = Some talk.TooMany }
end_after (ending.Refused f) n = record { lines = n; text = fault_line f; fault = None }
end_after (ending.Unsound f) n = record { lines = n; text = open_fault_line f; fault = None }

-- the next line is taken, or nothing is left
abbrev pub Advances : Bool → List ℕ → Option (List ℕ) → List ℕ → Type 0
Advances true line left xs = TakesLine line xs left
Advances false line left xs = xs ≡ []

-- no line is refused for what it says
abbrev pub NoRefusal : List ℕ → List ℕ → Type 0
NoRefusal line text = ⊥

-- the audit ends at the next line of the bytes xs
abbrev pub EndsBytes : (List ℕ → List ℕ → Type 0) → Bool → ℕ → End → List ℕ → Type 0
EndsBytes Refuses is_wanted n e xs = EndsAt Refuses is_wanted n (lines_of xs) e

-- the audit ends at the first of the lines of the bytes xs that is no step
abbrev pub EndsStepBytes : ℕ → End → List ℕ → Type 0
EndsStepBytes n e xs = EndsInSteps n (lines_of xs) e

-- the audit ends without a verdict on the bytes xs
abbrev pub EndsEarlyBytes : End → List ℕ → Type 0
EndsEarlyBytes e xs = EndsEarly (lines_of xs) e

-- after n lines one more is taken, no longer than a line may be; with it they are m, and these bytes are left
pub record TakesWanted (n m : ℕ) (line : List ℕ) (bytes left : Option (List ℕ)) : Type 0 where
  pub count : m ≡ n + 1
  pub most : m ≤ 1000000
  pub short : length line ≤ 16384
  pub takes : IfSome bytes (Advances true line left)

-- a line is refused with the text of this ending
abbrev pub RefusesBy : (List ℕ → List ℕ → Type 0) → List ℕ → Ending → Type 0
RefusesBy Refuses line ending = (n : ℕ) → ((end_after ending n).fault ≡ None) × Refuses line (end_after ending n).text

-- the lines of the bytes xs are steps
pub record TakesSteps (steps : List Step) (n m : ℕ) (xs : List ℕ) : Type 0 where
  pub read : StepsRead n (lines_of xs) steps
  pub count : m ≡ n + length (lines_of xs)

-- the lines of the bytes xs were read, and this is the verdict
pub record Judges (v : Verdict) (m : ℕ) (xs : List ℕ) : Type 0 where
  pub graph : Protection
  pub goal : Goal
  pub steps : List Step
  pub read : AuditRead (lines_of xs) graph goal steps
  pub is : IsVerdict graph steps goal v
  pub count : m ≡ length (lines_of xs)

-- the text is the verdict's line, or that of `out of memory`, and counts as this many errors
abbrev pub TellsVerdict : Verdict → ℕ → List ℕ → Type 0
TellsVerdict v errors text = ((errors ≡ verdict_errors v) × (text ≡ verdict_line v)) ⊎ ((errors ≡ 1) × (text ≡ fault_line wire.OutOfMemory))
