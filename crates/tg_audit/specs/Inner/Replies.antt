-- whom the plain graph can answer, and what it replies to one who has retired
use Rattle.std.specs.Prelude.{◌≡◌, ◌⊎◌, ℕ, true, cond, Option, Some, None}
use Rattle.tg_rights.specs.Promise.Command.{rule_of}
use Rattle.tg_rights.specs.declared.command.Command.{Command}
use Rattle.tg_rights.specs.declared.outcome.Cause.TheVariants as cause
use Rattle.tg_rights.specs.declared.outcome.Outcome.{Outcome}
use Rattle.tg_rights.specs.declared.outcome.Outcome.TheVariants as outcome
use Rattle.tg_rights.specs.declared.outcome.Reply.{Reply}
use Rattle.tg_rights.specs.declared.outcome.Reply.TheVariants as reply
use Rattle.tg_rights.specs.declared.outcome.Which.{Which}
use Rattle.tg_rights.specs.declared.outcome.Which.TheVariants as which
use Rattle.tg_graph.specs.Promise.Protection.{IsSubject, Protection, has_retired}
use Rattle.tg_graph.specs.Promise.Rules.{is_for_retired}

-- what is used up in an outcome that no plain graph gives
abbrev pub beyond : Outcome → Option Which
beyond (outcome.Full which.Slots) = Some which.Slots
beyond (outcome.Full which.Cells) = Some which.Cells
beyond (outcome.Full which.Serials) = None
beyond outcome.Allowed = None
beyond (outcome.Denied rule cause) = None

-- whom the plain graph can answer: a subject, or somebody who has retired
abbrev pub IsSubjectOrRetired : Protection → ℕ → Type 0
IsSubjectOrRetired G x = IsSubject G x ⊎ (has_retired G x ≡ true)

-- the reply to x once it has retired: it may leave whom it acts for, and nothing else
abbrev pub retired_reply : ℕ → Command → Reply
retired_reply x c = cond (is_for_retired x c) reply.Done (reply.Denied (rule_of c) cause.Retired)
