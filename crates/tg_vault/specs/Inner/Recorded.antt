-- an entry of the history as it lies in memory
use Rattle.std.specs.Prelude.{◌≡◌, ℕ, ⊤}
use Rattle.tg_rights.specs.declared.command.Command.{Command}
use Rattle.tg_rights.specs.declared.command.Command.TheVariants as command
use Rattle.tg_rights.specs.declared.outcome.Cause.{Cause}
use Rattle.tg_rights.specs.declared.outcome.Cause.TheVariants as cause
use Rattle.tg_rights.specs.declared.outcome.Outcome.{Outcome}
use Rattle.tg_rights.specs.declared.outcome.Outcome.TheVariants as outcome
use Rattle.tg_vault.specs.declared.entry.Verdict.{Verdict}
use Rattle.tg_vault.specs.declared.entry.Verdict.TheVariants.{Allowed, Denied, Full}
use Rattle.tg_vault.specs.declared.entry.Why.{Why}
use Rattle.tg_vault.specs.declared.entry.Why.TheVariants as why
use Rattle.tg_vault.specs.declared.entry.Place.{Place}
use Rattle.tg_vault.specs.declared.entry.Place.TheVariants.{Actor, First, Second}
use Rattle.tg_vault.specs.declared.entry.Entry.TheInside.{Inside}
use Rattle.tg_vault.specs.Promise.Recorded.{Recorded}

-- the cause that names these serials, if it names any
abbrev pub cause_of : Why → ℕ → ℕ → Cause
cause_of why.Retired from to = cause.Retired
cause_of why.Empty from to = cause.Empty
cause_of why.NotDistinct from to = cause.NotDistinct
cause_of (why.Missing rights) from to = cause.Missing rights from to
cause_of why.NotDocument from to = cause.NotDocument from
cause_of why.NotSubject from to = cause.NotSubject from
cause_of why.NotPrincipal from to = cause.NotPrincipal
cause_of why.NameTaken from to = cause.NameTaken
cause_of why.Crowded from to = cause.Crowded

-- the outcome that a verdict has with this cause
abbrev pub outcome_of : Verdict → Cause → Outcome
outcome_of Allowed c = outcome.Allowed
outcome_of (Denied rule) c = outcome.Denied rule c
outcome_of (Full which) c = outcome.Full which

-- the serials that a command names, `over` before `from` or `to`; 0 in place of those that it does not name
abbrev pub first_named : Command → ℕ
first_named (command.Take α over from) = over
first_named (command.Grant α over to) = over
first_named (command.Remove α over) = over
first_named (command.Read over) = over
first_named (command.Write over text) = over
first_named (command.Look at) = at
first_named (command.Assume agent) = agent
first_named _ = 0

abbrev pub second_named : Command → ℕ
second_named (command.Take α over from) = from
second_named (command.Grant α over to) = to
second_named _ = 0

-- the serial that stands at this place of what x asked
abbrev pub serial_at : Place → ℕ → Command → ℕ
serial_at Actor x c = x
serial_at First x c = first_named c
serial_at Second x c = second_named c

-- the serial stands at some place of what x asked
abbrev pub IsNamed : ℕ → Command → ℕ → Type 0
IsNamed x c v = (place : Place) × (serial_at place x c ≡ v)

-- so do those that the cause names
abbrev pub AreNamed : ℕ → Command → Cause → Type 0
AreNamed x c (cause.Missing rights from to) = IsNamed x c from × IsNamed x c to
AreNamed x c (cause.NotDocument v) = IsNamed x c v
AreNamed x c (cause.NotSubject v) = IsNamed x c v
AreNamed x c _ = ⊤

abbrev pub IsOfCommand : ℕ → Command → Outcome → Type 0
IsOfCommand x c (outcome.Denied rule why) = AreNamed x c why
IsOfCommand x c _ = ⊤

abbrev pub recorded : Inside → Recorded
recorded e = record {
  seat = e.seat;
  actor = e.actor;
  command = e.command;
  outcome = outcome_of e.verdict (cause_of e.why (serial_at e.from e.actor e.command) (serial_at e.to e.actor e.command));
}
