-- shared vaults in other words
use Rattle.std.specs.Prelude.{◌≡◌, ◌≢◌, ◌≤◌, ℕ, List, Some, true, length, sum_by}
use Rattle.tg_rights.specs.declared.command.Command.{Command}
use Rattle.tg_rights.specs.declared.outcome.Reply.{Reply}
use Rattle.tg_vault.specs.declared.event.AskFault.{AskFault}
use Rattle.tg_vault.specs.declared.event.AskFault.TheVariants as ask_fault
use Rattle.tg_vault.specs.declared.event.Event.TheVariants as event
use Rattle.tg_vault.specs.declared.event.Answer.TheVariants as answer
use Rattle.tg_vault.specs.Promise.Contents.{Contents, moment}
use Rattle.tg_vault.specs.Promise.Cycles.{ended_in, notes_in}
use Rattle.tg_vault.specs.Promise.Headline.{asked_in}
use Rattle.tg_vault.specs.Promise.World.{actor_at}
use Rattle.tg_vault.specs.declared.room.Room.{Room}
use Rattle.tg_audit.specs.declared.logs.Settled.{Settled}
use Rattle.tg_audit.specs.declared.logs.Settled.TheVariants as settled
use Rattle.tg_share.specs.declared.closing.Closed.{Closed}
use Rattle.tg_share.specs.declared.closing.Closed.TheVariants as closed
use Rattle.tg_share.specs.declared.session.Ended.{Ended}
use Rattle.tg_share.specs.Promise.Closing.{IsClosed, exchange_count, vault_in}
use Rattle.tg_share.specs.Promise.Reached.{HasAnswered, HasHeadline, HasRoom, IsEntered}
use Rattle.tg_share.specs.Promise.Sessions.{IsRefused}

-- a vault to which events have led has an entry for each command that was asked, and with one slot and one cell one of any
-- eight collector steps ended a cycle; a command is entered for the seat's actor; and one that is refused, but for want of
-- memory, is refused by some vault
pub record SharesMean (v : Contents) : Type 0 where
  pub entries : (h : HasHeadline v) → length v.history ≡ length (asked_in h.reached.answers)
  pub cycles : (h : HasHeadline v) → h.reached.opened.limits ≡ record { slots = 1; cells = 1 } → 8 ≤ length (notes_in h.reached.answers) → 1 ≤ ended_in h.reached.answers
  pub entered : (seat actor : ℕ) (c : Command) (reply : Reply) → IsEntered v seat actor c reply → actor_at (moment v).world seat ≡ Some actor
  pub refused : (seat : ℕ) (c : Command) (fault : AskFault) → IsRefused seat c fault → fault ≢ ask_fault.OutOfMemory → HasAnswered (event.Ask seat c) (answer.Ask fault)

abbrev pub SharesHaveMeanings : Type 0
SharesHaveMeanings = (v : Contents) → SharesMean v

-- no more slots and cells are told to be free than there are
abbrev pub RoomsAreWithin : Type 0
RoomsAreWithin = (r : Room) → HasRoom r → (r.free_slots ≤ r.slots) × (r.free_cells ≤ r.cells)

-- how many exchanges are left when a vault is closed: as entries of a history with which they agree, or in logs that are
-- given back
abbrev pub exchanges_left : {L : Type 0} → Closed L → ℕ
exchanges_left (closed.Done (settled.Agreed v) counted) = length v.history
exchanges_left (closed.Done (settled.Differs v logs seat index) counted) = sum_by (λ l. length l.exchanges.items) logs.items
exchanges_left (closed.Done (settled.NoMemory v logs) counted) = sum_by (λ l. length l.exchanges.items) logs.items
exchanges_left (closed.NoRoom shared back) = exchange_count back.items

-- no exchange is lost in closing, and if all sessions were counted, the history has an entry for each (for sessions
-- without a ledger of their own: none of it matters here)
pub record ClosingMeans (ended : List (Ended (Unit {0}))) : Type 0 where
  pub kept : (c : Closed (Unit {0})) → IsClosed ended c → exchanges_left c ≡ exchange_count ended
  pub counted : (s : Settled) (c : Closed (Unit {0})) → c ≡ closed.Done s true → IsClosed ended c → length (vault_in s).history ≡ exchanges_left c

abbrev pub ClosingHasMeaning : Type 0
ClosingHasMeaning = (ended : List (Ended (Unit {0}))) → ClosingMeans ended
