-- what contracts see of a session, and what a call of submit does to it
use Rattle.std.specs.Prelude.{◌≡◌, ◌⊎◌, ℕ, ◌+◌, List, [], ◌∷◌, ◌++◌, Result, MatchResult}
use Rattle.std.specs.Borrow.{Bor}
use Rattle.tg_rights.specs.declared.command.Command.{Command}
use Rattle.tg_rights.specs.declared.outcome.Reply.{Reply}
use Rattle.tg_vault.specs.declared.event.AskFault.{AskFault}
use Rattle.tg_vault.specs.declared.event.AskFault.TheVariants as ask_fault
use Rattle.tg_vault.specs.declared.event.Event.TheVariants as event
use Rattle.tg_vault.specs.declared.event.Answer.TheVariants as answer
use Rattle.tg_vault.specs.Promise.Contents.{Contents}
use Rattle.tg_audit.specs.declared.logs.Exchange.{Exchange}
use Rattle.tg_share.specs.Promise.Reached.{HasAnswered, IsEntered}

-- a principal on a seat, its log, and how much of the count of entries its share has
pub record Sitting : Type 0 where
  pub seat : ℕ
  pub actor : ℕ
  pub log : List Exchange
  pub counted : ℕ

-- the log has one more exchange, of this actor, and the share one more entry
abbrev pub with_exchange : Sitting → ℕ → Command → Reply → Sitting
with_exchange s actor command reply = record s { log = s.log ++ record { actor = actor; command = command; reply = reply } ∷ []; counted = s.counted + 1 }

-- some vault, to which nothing but events has happened, entered the command of the seat for an actor and gave this
-- reply; the log has one more exchange, of that actor
pub record Grows (old new : Sitting) (command : Command) (reply : Reply) : Type 0 where
  pub actor : ℕ
  pub vault : Contents
  pub entered : IsEntered vault old.seat actor command reply
  pub grown : new ≡ with_exchange old actor command reply

-- the command of the seat is not entered: for want of memory, or some vault that events have led to gives this fault
abbrev pub IsRefused : ℕ → Command → AskFault → Type 0
IsRefused seat command fault = (fault ≡ ask_fault.OutOfMemory) ⊎ HasAnswered (event.Ask seat command) (answer.Ask fault)

-- the command was entered and got the reply that is returned; or it was refused, and nothing has changed
abbrev pub HasAsked : Sitting → Command → Result (Bor Reply) AskFault → Sitting → Type 0
HasAsked old command result new = MatchResult result (λ r. Grows old new command r.now) (λ fault. (new ≡ old) × IsRefused old.seat command fault)
