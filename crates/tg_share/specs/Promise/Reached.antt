-- vaults to which nothing but events has happened, and their answers
use Rattle.std.specs.Prelude.{◌≡◌, ℕ, List, [], length, Some, slice_get}
use Rattle.std.specs.Option.{option_map}
use Rattle.tg_rights.specs.declared.command.Command.{Command}
use Rattle.tg_rights.specs.declared.outcome.Reply.{Reply}
use Rattle.tg_vault.specs.declared.event.Event.{Event}
use Rattle.tg_vault.specs.declared.event.Event.TheVariants as event
use Rattle.tg_vault.specs.declared.event.Answer.{Answer}
use Rattle.tg_vault.specs.declared.event.Answer.TheVariants as answer
use Rattle.tg_vault.specs.Promise.Contents.{Contents}
use Rattle.tg_vault.specs.Promise.Course.{Course, IsCoherent, VaultStep}
use Rattle.tg_vault.specs.Promise.Cycles.{IsBounded}
use Rattle.tg_vault.specs.Promise.Headline.{Headline}
use Rattle.tg_vault.specs.Promise.Room.{IsRoom}
use Rattle.tg_vault.specs.declared.room.Room.{Room}

-- some events, one after another, have led here from a vault without entries
pub record IsReached (v : Contents) : Type 0 where
  pub opened : Contents
  pub events : List Event
  pub answers : List Answer
  pub empty : opened.history ≡ []
  pub coherent : IsCoherent opened
  pub course : Course opened events answers v

-- what lies under the lock: the vault, and how many sessions were given a part of the ledger
pub record UnderLock : Type 0 where
  pub vault : Contents
  pub given : ℕ

-- the headline of these events, and the bound on the steps of a cycle
pub record HasHeadline (v : Contents) : Type 0 where
  pub reached : IsReached v
  pub headline : Headline reached.opened reached.events reached.answers v
  pub bounded : IsBounded reached.opened reached.answers

-- some vault that events have led to has this room left
pub record HasRoom (r : Room) : Type 0 where
  pub vault : Contents
  pub reached : IsReached vault
  pub room : IsRoom vault r

-- the vault, which events have led to, gives the event this answer, and some vault follows
pub record IsAnswered (v : Contents) (e : Event) (a : Answer) : Type 0 where
  pub reached : IsReached v
  pub after : Contents
  pub step : VaultStep v e a after

-- some vault that events have led to gives the event this answer
pub record HasAnswered (e : Event) (a : Answer) : Type 0 where
  pub vault : Contents
  pub answered : IsAnswered vault e a

-- the entry that was added is this actor's
abbrev pub IsEnteredFor : Contents → Contents → ℕ → Type 0
IsEnteredFor old new actor = option_map (λ e. e.actor) (slice_get new.history (length old.history)) ≡ Some actor

-- an entry has one actor
abbrev pub OneActor : Type 0
OneActor = (v w : Contents) (a b : ℕ) → IsEnteredFor v w a → IsEnteredFor v w b → a ≡ b

-- the vault, which events have led to, enters the command of the seat for this actor, and gives this reply
pub record IsEntered (v : Contents) (seat actor : ℕ) (command : Command) (reply : Reply) : Type 0 where
  pub reached : IsReached v
  pub after : Contents
  pub step : VaultStep v (event.Ask seat command) (answer.Asked (length v.history) reply) after
  pub actors : IsEnteredFor v after actor
