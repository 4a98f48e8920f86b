-- The answer to a line of a talk.
use Rattle.std.proofs.Common.{◌≡◌, ◌≢◌, ◌⊎◌, ℕ, List, [], ◌∷◌, Option, None, Some, Ok, Err, inl, inr, refl, sym, ap, ◌∙◌, append-nil, true, false}
use Rattle.tg_rights.specs.declared.command.Command.{Command}
use Rattle.tg_vault.specs.declared.event.Event.TheVariants as event
use Rattle.tg_vault.specs.declared.event.Answer.TheVariants as answer
use Rattle.tg_vault.specs.declared.event.SeatFault.{SeatFault}
use Rattle.tg_vault.specs.declared.event.SeatFault.TheVariants as seat_fault
use Rattle.tg_vault.specs.declared.event.AskFault.{AskFault}
use Rattle.tg_vault.specs.declared.event.AskFault.TheVariants as ask_fault
use Rattle.tg_share.specs.Promise.Reached.{HasAnswered}
use Rattle.tg_share.specs.Promise.Sessions.{IsRefused, Sitting}
use Rattle.tg_wire.specs.Promise.Faults.{fault_line}
use Rattle.tg_wire.specs.Promise.Lines.{line_of}
use Rattle.tg_wire.specs.Promise.Reading as reading
use Rattle.tg_wire.specs.declared.line.Line.{Line}
use Rattle.tg_wire.specs.declared.line.Line.TheVariants.{Act}
use Rattle.tg_wire.specs.declared.fault.WireFault.{WireFault}
use Rattle.tg_wire.specs.declared.fault.WireFault.TheVariants as wire
use Rattle.tg_talk.specs.Promise.Talks.{LineTold, refused, seated, not_seated, no_actor, bound, not_for_a_session, exchanged, not_entered, no_memory, seated_untold, is_hello, is_for_no_session}
use Rattle.tg_talk.specs.Promise.Answering.{Saying, goes_on, closes, unanswered}
use Rattle.tg_talk.specs.Promise.Refusals.{not_for_a_session_line}
use Rattle.tg_talk.specs.Inner.Talking.{Asks, IsHello, SaysTo, Tells}

told_refused : (sits : Option ℕ) (line : List ℕ) (f : WireFault) → reading.Answers {A = Line} (Err f) (line_of line) → LineTold sits line sits [] (fault_line f)
told_refused sits line wire.NotJson h = refused wire.NotJson h refl refl refl
told_refused sits line wire.NotObject h = refused wire.NotObject h refl refl refl
told_refused sits line wire.NoOp h = refused wire.NoOp h refl refl refl
told_refused sits line wire.MissingField h = refused wire.MissingField h refl refl refl
told_refused sits line wire.BadField h = refused wire.BadField h refl refl refl
told_refused sits line wire.UnknownField h = refused wire.UnknownField h refl refl refl
told_refused sits line wire.TooLong h = refused wire.TooLong h refl refl refl
told_refused sits line wire.OutOfMemory h = no_memory refl refl refl

-- ---- a line from a client whose hello has not succeeded yet

pub stranger_refused : (line : List ℕ) (f : WireFault) → reading.Answers {A = Line} (Err f) (line_of line) → SaysTo None line (goes_on (fault_line f) 0) None
stranger_refused line f h = ([], refl, told_refused None line f h)

pub stranger_unknown : (line text : List ℕ) (asked : Line) → line_of line ≡ Ok asked → is_hello asked ≡ false → Tells (answer.Ask ask_fault.NoActor) text → SaysTo None line (goes_on text 0) None
stranger_unknown line text asked read other (_, inl (told, _)) = ([], refl, no_actor asked refl read other refl refl told)
stranger_unknown line text asked read other (_, inr (told, _)) = ([], refl, no_memory refl refl told)

pub stranger_not_seated : (line text name : List ℕ) (asked : Line) (seat : ℕ) (f : SeatFault) → line_of line ≡ Ok asked → IsHello asked name → (f ≡ seat_fault.NoSeat) ⊎ HasAnswered (event.Hello seat name) (answer.Seat f) → Tells (answer.Seat f) text
    → SaysTo None line (goes_on text 0) None
stranger_not_seated line text name asked seat f read (named, is) why (_, inl (told, _)) = ([], refl, not_seated named seat name f refl (read ∙ ap Ok is) why refl refl told)
stranger_not_seated line text name asked seat f read (named, is) why (_, inr (told, _)) = ([], refl, no_memory refl refl told)

pub stranger_seated : (line text name : List ℕ) (asked : Line) (seat : ℕ) (s : Sitting) → line_of line ≡ Ok asked → IsHello asked name → s.log ≡ [] → HasAnswered (event.Hello seat name) (answer.Hello s.actor) → Tells (answer.Hello s.actor) text
    → SaysTo None line (goes_on text 0) (Some s)
stranger_seated line text name asked seat s read (named, is) new answered (_, inl (told, _)) = ([], new, seated named seat name s.actor refl (read ∙ ap Ok is) answered refl refl told)
stranger_seated line text name asked seat s read (named, is) new answered (_, inr (told, _)) = ([], new, seated_untold named seat name s.actor refl (read ∙ ap Ok is) answered refl refl told)

-- ---- a line of a session

heard_quiet : (s : Sitting) (line text : List ℕ) → LineTold (Some s.actor) line (Some s.actor) [] text → SaysTo (Some s) line (goes_on text 0) (Some s)
heard_quiet s line text told = ([], sym (append-nil s.log), told)

pub heard_refused : (s : Sitting) (line : List ℕ) (f : WireFault) → reading.Answers {A = Line} (Err f) (line_of line) → SaysTo (Some s) line (goes_on (fault_line f) 0) (Some s)
heard_refused s line f h = heard_quiet s line (fault_line f) (told_refused (Some s.actor) line f h)

pub heard_for_none : (s : Sitting) (line : List ℕ) (asked : Line) → line_of line ≡ Ok asked → is_for_no_session asked ≡ true → SaysTo (Some s) line (goes_on not_for_a_session_line 0) (Some s)
heard_for_none s line asked read other = heard_quiet s line not_for_a_session_line (not_for_a_session s.actor asked refl read other refl refl refl)

pub heard_hello : (s : Sitting) (line name text : List ℕ) (seat : ℕ) → line_of line ≡ Ok (Act (event.Hello seat name)) → Tells (answer.Seat seat_fault.Bound) text → SaysTo (Some s) line (goes_on text 0) (Some s)
heard_hello s line name text seat read (_, inl (told, _)) = heard_quiet s line text (bound s.actor seat name refl read refl refl told)
heard_hello s line name text seat read (_, inr (told, _)) = heard_quiet s line text (no_memory refl refl told)

told_fault : (actor seat at : ℕ) (line : List ℕ) (command : Command) (f : AskFault) (text : List ℕ) → f ≢ ask_fault.NoSeat → IsRefused at command f → line_of line ≡ Ok (Act (event.Ask seat command)) → Tells (answer.Ask f) text
    → LineTold (Some actor) line (Some actor) [] text
told_fault actor seat at line command f text has_seat why read (_, inl (told, _)) = not_entered actor seat at command f has_seat why refl read refl refl told
told_fault actor seat at line command f text has_seat why read (_, inr (told, _)) = no_memory refl refl told

pub heard_ask : (s new : Sitting) (line : List ℕ) (how : Saying) (seat : ℕ) (command : Command) → line_of line ≡ Ok (Act (event.Ask seat command)) → Asks s command how new → SaysTo (Some s) line how (Some new)
heard_ask s new line (goes_on text k) seat command read (inl (actor, reply, grown, told)) =
    rw grown (record { actor = actor; command = command; reply = reply } ∷ [], refl, exchanged s.actor actor seat command reply refl read refl refl told)
heard_ask s new line (goes_on text k) seat command read (inr (f, has_seat, why, same, tells)) = rw same (heard_quiet s line text (told_fault s.actor seat s.seat line command f text has_seat why read tells))
heard_ask s new line (closes text k) seat command read h = absurd h
heard_ask s new line unanswered seat command read (actor, reply, grown) =
    rw grown (
      record { actor = actor; command = command; reply = reply } ∷ [],
      refl,
      record { principal = s.actor; actor = actor; seat = seat; command = command; reply = reply; sits_there = refl; read = read; stays = refl; entered = refl },
    )
