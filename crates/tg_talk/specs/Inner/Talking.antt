-- what a talk answers to a line
use Rattle.std.specs.Prelude.{◌≡◌, ◌≢◌, ℕ, List, [], Bool, Option, Some, None, option_map, ◌⊎◌}
use Rattle.tg_rights.specs.declared.command.Command.{Command}
use Rattle.tg_rights.specs.declared.outcome.Reply.{Reply}
use Rattle.tg_vault.specs.declared.event.Answer.{Answer}
use Rattle.tg_vault.specs.declared.event.Answer.TheVariants as answer
use Rattle.tg_vault.specs.declared.event.AskFault.{AskFault}
use Rattle.tg_vault.specs.declared.event.AskFault.TheVariants as ask_fault
use Rattle.tg_vault.specs.declared.event.Event.TheVariants as event
use Rattle.tg_wire.specs.declared.line.Line.{Line}
use Rattle.tg_wire.specs.declared.line.Line.TheVariants.{Act}
use Rattle.tg_audit.specs.declared.logs.Exchange.{Exchange}
use Rattle.tg_share.specs.Promise.Sessions.{IsRefused, Sitting, with_exchange}
use Rattle.tg_share.specs.declared.session.Ended.{Ended}
use Rattle.tg_wire.specs.Promise.Replies.{reply_line}
use Rattle.tg_talk.specs.Promise.Answering.{Saying, goes_on, closes, unanswered, TellsAnswer}
use Rattle.tg_talk.specs.Promise.Talks.{Seated, TalkSays}

-- the text is the answer's line, or that of `out of memory`
abbrev pub Tells : Answer → List ℕ → Type 0
Tells a text = (wrong : Bool) × TellsAnswer a text wrong

-- the principal, once a hello has succeeded, and the log
abbrev pub actor_of : Option Sitting → Option ℕ
actor_of sitting = option_map (λ s. s.actor) sitting

abbrev pub log_of : Option Sitting → List Exchange
log_of None = []
log_of (Some s) = s.log

-- what is left of the one who sits
abbrev pub Leaves : {L : Type 0} → Option Sitting → Option (Ended L) → Type 0
Leaves None None = Unit {0}
Leaves None (Some e) = ⊥
Leaves (Some s) None = ⊥
Leaves (Some s) (Some e) = (e.log.seat ≡ s.seat) × (e.actor ≡ s.actor) × (e.log.exchanges.items ≡ s.log)

-- the line is a hello by this name
abbrev pub IsHello : Line → List ℕ → Type 0
IsHello asked name = (seat : ℕ) × (asked ≡ Act (event.Hello seat name))

-- a command was submitted for some actor: what is said of it, and the session then
abbrev pub Asks : Sitting → Command → Saying → Sitting → Type 0
Asks old command (goes_on text errors) new =
    ((actor : ℕ) × (reply : Reply) × (new ≡ with_exchange old actor command reply) × (text ≡ reply_line reply)) ⊎ ((f : AskFault) × (f ≢ ask_fault.NoSeat) × IsRefused old.seat command f × (new ≡ old) × Tells (answer.Ask f) text)
Asks old command (closes text errors) new = ⊥
Asks old command unanswered new = (actor : ℕ) × (reply : Reply) × (new ≡ with_exchange old actor command reply)

-- what becomes of a line of the one who sits, or of a stranger
abbrev pub seated : Option Sitting → Seated
seated sitting = record { sits = actor_of sitting; log = log_of sitting }

abbrev pub SaysTo : Option Sitting → List ℕ → Saying → Option Sitting → Type 0
SaysTo old line how new = TalkSays (seated old) line how (seated new)

-- the same of whoever has one who sits
abbrev pub HostSays : {H : Type 0} → (H → Option Sitting) → H → List ℕ → Saying → H → Type 0
HostSays sits host line how now = SaysTo (sits host) line how (sits now)
