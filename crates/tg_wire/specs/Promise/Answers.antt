-- an answer of the vault, what a cycle did, and a verdict of the auditor as JSON, and the one line of each. Keys are in
-- rising order.
use Rattle.std.specs.Prelude.{ℕ, List, Option, Some, None, Bool, true, false, codes}
use Rattle.serde_json.specs.Data.{Data, null, boolean, string, number, unsigned, object, no_members, member}
use Rattle.tg_rights.specs.declared.command.Rule.{Rule}
use Rattle.tg_rights.specs.declared.outcome.Cause.{Cause}
use Rattle.tg_rights.specs.Promise.Written.{rights_text}
use Rattle.tg_graph.specs.declared.derivation.Verdict.{Verdict}
use Rattle.tg_graph.specs.declared.derivation.Verdict.TheVariants as verdict
use Rattle.tg_collect.specs.declared.note.Phase.{Phase}
use Rattle.tg_collect.specs.declared.note.Phase.TheVariants as phase
use Rattle.tg_collect.specs.declared.note.Note.{Note}
use Rattle.tg_collect.specs.declared.note.Swept.{Swept}
use Rattle.tg_vault.specs.declared.event.Answer.{Answer}
use Rattle.tg_vault.specs.declared.event.Answer.TheVariants as answer
use Rattle.tg_wire.specs.Promise.Faults.{line_text, error_data, seat_fault_text, ask_fault_text}
use Rattle.tg_wire.specs.Promise.Replies.{cause_fields, rule_text, reply_data, with_fields}

-- a serial, or null
abbrev pub target_data : Option ℕ → Data
target_data None = null
target_data (Some n) = number (unsigned n)

abbrev pub phase_text : Phase → List ℕ
phase_text phase.Idle = codes "idle"
phase_text phase.Mark = codes "mark"
phase_text phase.Sweep = codes "sweep"

-- what a collector step did
abbrev pub noted_data : Note → Data
noted_data note = object (member (codes "ended") (boolean note.ended) (member (codes "freed") (number (unsigned note.freed)) (member (codes "phase") (string (phase_text note.phase)) no_members)))

abbrev pub answer_data : Answer → Data
answer_data (answer.Hello n) = object (member (codes "ok") (string (codes "hello")) (member (codes "vertex") (number (unsigned n)) no_members))
answer_data answer.Bye = object (member (codes "ok") (string (codes "bye")) no_members)
answer_data (answer.Asked n reply) = reply_data reply
answer_data (answer.Shaded target) = object (member (codes "shaded") (target_data target) no_members)
answer_data (answer.Noted note) = noted_data note
answer_data (answer.Seat fault) = error_data (seat_fault_text fault)
answer_data (answer.Ask fault) = error_data (ask_fault_text fault)

unfoldable pub answer_line : Answer → List ℕ
answer_line a = line_text (answer_data a)

-- what a cycle did
abbrev pub swept_data : Swept → Data
swept_data swept = object (member (codes "freed") (number (unsigned swept.freed)) (member (codes "steps") (number (unsigned swept.steps)) no_members))

unfoldable pub swept_line : Swept → List ℕ
swept_line s = line_text (swept_data s)

-- the line is an `error` line
abbrev pub is_error : Answer → Bool
is_error (answer.Hello n) = false
is_error answer.Bye = false
is_error (answer.Asked n reply) = false
is_error (answer.Shaded target) = false
is_error (answer.Noted note) = false
is_error (answer.Seat fault) = true
is_error (answer.Ask fault) = true

-- a denial, with the step and its verdict
abbrev pub denied_step_data : ℕ → Rule → Cause → Data
denied_step_data n rule cause = object (with_fields (cause_fields cause)
    (member (codes "denied") (string (rule_text rule)) (member (codes "step") (number (unsigned n)) (member (codes "verdict") (string (codes "step denied")) no_members))))

abbrev pub verdict_data : Verdict → Data
verdict_data verdict.Shared = object (member (codes "verdict") (string (codes "shared")) no_members)
verdict_data (verdict.ActorNotSubject n) = object (member (codes "step") (number (unsigned n)) (member (codes "verdict") (string (codes "actor not subject")) no_members))
verdict_data (verdict.StepDenied n rule cause) = denied_step_data n rule cause
verdict_data (verdict.StepFull n) = object (member (codes "step") (number (unsigned n)) (member (codes "verdict") (string (codes "step full")) no_members))
verdict_data (verdict.GoalMissing rights) = object (member (codes "missing") (string (rights_text rights)) (member (codes "verdict") (string (codes "goal missing")) no_members))

unfoldable pub verdict_line : Verdict → List ℕ
verdict_line v = line_text (verdict_data v)
