-- what a talk answers to the lines of its input
use Rattle.std.specs.Prelude.{◌≡◌, ◌≢◌, ℕ, List, [], ◌∷◌, ◌++◌, Bool, true, false, Option, Some, None, option_map, ◌⊎◌, Ok, Err}
use Rattle.tg_rights.specs.declared.command.Command.{Command}
use Rattle.tg_rights.specs.declared.outcome.Reply.{Reply}
use Rattle.tg_vault.specs.declared.event.Event.TheVariants as event
use Rattle.tg_vault.specs.declared.event.Answer.TheVariants as answer
use Rattle.tg_vault.specs.declared.event.SeatFault.{SeatFault}
use Rattle.tg_vault.specs.declared.event.SeatFault.TheVariants as seat_fault
use Rattle.tg_vault.specs.declared.event.AskFault.{AskFault}
use Rattle.tg_vault.specs.declared.event.AskFault.TheVariants as ask_fault
use Rattle.tg_audit.specs.declared.logs.Exchange.{Exchange}
use Rattle.tg_share.specs.Promise.Reached.{HasAnswered}
use Rattle.tg_share.specs.Promise.Sessions.{IsRefused}
use Rattle.tg_share.specs.declared.session.Ended.{Ended}
use Rattle.tg_wire.specs.Promise.Lines.{line_of}
use Rattle.tg_wire.specs.Promise.Replies.{reply_line}
use Rattle.tg_wire.specs.Promise.Answers.{answer_line}
use Rattle.tg_wire.specs.Promise.Faults.{fault_line}
use Rattle.tg_wire.specs.declared.line.Line.{Line}
use Rattle.tg_wire.specs.declared.line.Line.TheVariants.{Act, Cycle}
use Rattle.tg_wire.specs.declared.fault.WireFault.{WireFault}
use Rattle.tg_wire.specs.declared.fault.WireFault.TheVariants as wire
use Rattle.tg_talk.specs.Promise.Devices.{SendsLast}
use Rattle.tg_talk.specs.Promise.InputLines.{lines_of}
use Rattle.tg_talk.specs.Promise.Refusals.{not_for_a_session_line}
use Rattle.tg_talk.specs.Promise.Answering.{Saying, goes_on, closes, unanswered, LinesAnswered}
use Rattle.tg_talk.specs.declared.fault.TalkFault.{TalkFault}
use Rattle.tg_talk.specs.declared.fault.TalkFault.TheVariants as talk

abbrev pub is_hello : Line → Bool
is_hello (Act (event.Hello seat name)) = true
is_hello _ = false

-- the line is of the shade or the collector, which no session asks for
abbrev pub is_for_no_session : Line → Bool
is_for_no_session (Act (event.Shade seat)) = true
is_for_no_session (Act event.Collect) = true
is_for_no_session Cycle = true
is_for_no_session _ = false

-- A line is answered by a text, and the talk goes on. `sits` is the principal, once a hello has succeeded, `then` the
-- one after the line; `log` is the exchange that was entered for the line, if one was, and names its own actor: the
-- principal, or one for whom the seat acts. A seat that a line names is not used: a vault was asked for some seat `at`,
-- of which nothing more is said.
pub data LineTold (sits : Option ℕ) (line : List ℕ) (then : Option ℕ) (log : List Exchange) (text : List ℕ) : Type 0 where
  refused : (f : WireFault) → line_of line ≡ Err f → then ≡ sits → log ≡ [] → text ≡ fault_line f → LineTold sits line then log text
  -- before a hello has succeeded
  seated : (seat at : ℕ) (name : List ℕ) (actor : ℕ) → sits ≡ None → line_of line ≡ Ok (Act (event.Hello seat name)) → HasAnswered (event.Hello at name) (answer.Hello actor) → then ≡ Some actor → log ≡ [] → text ≡ answer_line (answer.Hello actor) → LineTold sits line then log text
  not_seated : (seat at : ℕ) (name : List ℕ) (f : SeatFault) → sits ≡ None → line_of line ≡ Ok (Act (event.Hello seat name)) → (f ≡ seat_fault.NoSeat) ⊎ HasAnswered (event.Hello at name) (answer.Seat f) → then ≡ None → log ≡ [] → text ≡ answer_line (answer.Seat f) → LineTold sits line then log text
  no_actor : (asked : Line) → sits ≡ None → line_of line ≡ Ok asked → is_hello asked ≡ false → then ≡ None → log ≡ [] → text ≡ answer_line (answer.Ask ask_fault.NoActor) → LineTold sits line then log text
  -- after it
  bound : (actor seat : ℕ) (name : List ℕ) → sits ≡ Some actor → line_of line ≡ Ok (Act (event.Hello seat name)) → then ≡ sits → log ≡ [] → text ≡ answer_line (answer.Seat seat_fault.Bound) → LineTold sits line then log text
  not_for_a_session : (actor : ℕ) (asked : Line) → sits ≡ Some actor → line_of line ≡ Ok asked → is_for_no_session asked ≡ true → then ≡ sits → log ≡ [] → text ≡ not_for_a_session_line → LineTold sits line then log text
  exchanged : (principal actor seat : ℕ) (command : Command) (reply : Reply) → sits ≡ Some principal → line_of line ≡ Ok (Act (event.Ask seat command)) → then ≡ sits
      → log ≡ record { actor = actor; command = command; reply = reply } ∷ [] → text ≡ reply_line reply → LineTold sits line then log text
  not_entered : (actor seat at : ℕ) (command : Command) (f : AskFault) → f ≢ ask_fault.NoSeat → IsRefused at command f → sits ≡ Some actor → line_of line ≡ Ok (Act (event.Ask seat command)) → then ≡ sits → log ≡ []
      → text ≡ answer_line (answer.Ask f) → LineTold sits line then log text
  -- no memory to read the line, or for the line of its answer
  no_memory : then ≡ sits → log ≡ [] → text ≡ fault_line wire.OutOfMemory → LineTold sits line then log text
  -- a hello has succeeded, and there was no memory to say so
  seated_untold : (seat at : ℕ) (name : List ℕ) (actor : ℕ) → sits ≡ None → line_of line ≡ Ok (Act (event.Hello seat name)) → HasAnswered (event.Hello at name) (answer.Hello actor) → then ≡ Some actor → log ≡ [] → text ≡ fault_line wire.OutOfMemory → LineTold sits line then log text

-- the line ends the talk: a bye of the one who sits
pub record ByeTold (sits : Option ℕ) (line : List ℕ) (then : Option ℕ) (log : List Exchange) (text : List ℕ) : Type 0 where
  pub actor : ℕ
  pub seat : ℕ
  pub sits_there : sits ≡ Some actor
  pub read : line_of line ≡ Ok (Act (event.Bye seat))
  pub stays : then ≡ sits
  pub none : log ≡ []
  pub told : (text ≡ answer_line answer.Bye) ⊎ (text ≡ fault_line wire.OutOfMemory)

-- the line's command was entered, and there was no memory for the line of its reply, which is left out
pub record Untold (sits : Option ℕ) (line : List ℕ) (then : Option ℕ) (log : List Exchange) : Type 0 where
  pub principal : ℕ
  pub actor : ℕ
  pub seat : ℕ
  pub command : Command
  pub reply : Reply
  pub sits_there : sits ≡ Some principal
  pub read : line_of line ≡ Ok (Act (event.Ask seat command))
  pub stays : then ≡ sits
  pub entered : log ≡ record { actor = actor; command = command; reply = reply } ∷ []

-- who sits, once a hello has succeeded, and the exchanges of the log
pub record Seated : Type 0 where
  pub sits : Option ℕ
  pub log : List Exchange

abbrev pub nobody : Seated
nobody = record { sits = None; log = [] }

-- what becomes of a line of a talk: the exchange that is entered for it, if one is, and the answer
abbrev pub TalkSays : Seated → List ℕ → Saying → Seated → Type 0
TalkSays s line (goes_on text errors) t = (log : List Exchange) × (t.log ≡ s.log ++ log) × LineTold s.sits line t.sits log text
TalkSays s line (closes text errors) t = (log : List Exchange) × (t.log ≡ s.log ++ log) × ByeTold s.sits line t.sits log text
TalkSays s line unanswered t = (log : List Exchange) × (t.log ≡ s.log ++ log) × Untold s.sits line t.sits log

-- A talk over the lines of its input: the exchanges of the log, in their order; who sits at the end; the fault, and the
-- lines taken in all; the text of the answers before the last one, and that of the last.
pub data TalkText : List (List ℕ) → List Exchange → Option ℕ → Option TalkFault → ℕ → List ℕ → List ℕ → Type 0 where
  -- no memory for the lines: none is taken
  no_buffer : {ls : List (List ℕ)} → TalkText ls [] None (Some talk.OutOfMemory) 0 [] []
  taken : {ls : List (List ℕ)} {log : List Exchange} {then : Option ℕ} {f : Option TalkFault} {m errors : ℕ} {before last : List ℕ}
      → LinesAnswered TalkSays nobody 0 0 ls (record { sits = then; log = log }) f m errors before last → TalkText ls log then f m before last

-- who sat at the end, and the exchanges of the log; none if no hello succeeded
abbrev pub actor_left : {L : Type 0} → Option (Ended L) → Option ℕ
actor_left left = option_map (λ e. e.actor) left

abbrev pub log_left : {L : Type 0} → Option (Ended L) → List Exchange
log_left None = []
log_left (Some e) = e.log.exchanges.items

-- what a whole talk does if the reader has the bytes input: its answers are those of a talk over the lines of the input
-- whose exchanges are those of the log, and the writer then holds all of the answers before the last one, and all of
-- the last, or, if it failed, a prefix of it
pub record HasTalked {L : Type 0} (lines : ℕ) (fault : Option TalkFault) (session : Option (Ended L)) (old new : Option (List ℕ)) (failed : Bool) (input : List ℕ) : Type 0 where
  pub before : List ℕ
  pub last : List ℕ
  pub text : TalkText (lines_of input) (log_left session) (actor_left session) fault lines before last
  pub sent : SendsLast old new failed before last
