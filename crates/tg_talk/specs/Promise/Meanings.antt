-- talks and their lines in other words: what follows from a line's answer, and from how lines end
use Rattle.std.specs.Prelude.{◌≡◌, ◌⊎◌, ℕ, List, [], ◌∷◌, Option, Some, None, Ok, Err}
use Rattle.tg_vault.specs.declared.event.Event.TheVariants as event
use Rattle.tg_vault.specs.declared.event.Answer.TheVariants as answer
use Rattle.tg_vault.specs.declared.event.SeatFault.{SeatFault}
use Rattle.tg_audit.specs.declared.logs.Exchange.{Exchange}
use Rattle.tg_wire.specs.Promise.Lines.{config_of, line_of}
use Rattle.tg_wire.specs.Promise.Replies.{reply_line}
use Rattle.tg_wire.specs.Promise.Answers.{answer_line}
use Rattle.tg_wire.specs.Promise.Faults.{fault_line}
use Rattle.tg_wire.specs.declared.line.Line.TheVariants.{Act}
use Rattle.tg_wire.specs.declared.fault.WireFault.{WireFault}
use Rattle.tg_wire.specs.declared.fault.WireFault.TheVariants as wire
use Rattle.tg_talk.specs.declared.fault.TalkFault.TheVariants as talk
use Rattle.tg_talk.specs.declared.line_buffer.Found.TheVariants as found
use Rattle.tg_talk.specs.Promise.Answering.{LinesAnswered}
use Rattle.tg_talk.specs.Promise.Finding.{FindsLine}
use Rattle.tg_talk.specs.Promise.Opening.{RefusesOpening}
use Rattle.tg_talk.specs.Promise.Talks.{LineTold, Seated, TalkSays, Untold}

-- the line asks for the exchange's command
abbrev pub AsksFor : List ℕ → Exchange → Type 0
AsksFor line e = (seat : ℕ) × (line_of line ≡ Ok (Act (event.Ask seat e.command)))

-- what was entered for a line is its command, and the answer is the reply to it, or left out
pub record ExchangesMean (sits : Option ℕ) (line : List ℕ) (then : Option ℕ) : Type 0 where
  pub told : (e : Exchange) (text : List ℕ) → LineTold sits line then (e ∷ []) text → AsksFor line e × (text ≡ reply_line e.reply)
  pub untold : (log : List Exchange) → Untold sits line then log → (e : Exchange) × (log ≡ e ∷ []) × AsksFor line e

-- who did not sit and then sits was told so, unless memory ran out; and a hello is answered as one
pub record HellosMean (line : List ℕ) (then : Option ℕ) (log : List Exchange) (text : List ℕ) : Type 0 where
  pub seated : (x : ℕ) → then ≡ Some x → (text ≡ answer_line (answer.Hello x)) ⊎ (text ≡ fault_line wire.OutOfMemory)
  pub answered : (seat : ℕ) (name : List ℕ) → line_of line ≡ Ok (Act (event.Hello seat name)) →
      ((x : ℕ) × (text ≡ answer_line (answer.Hello x))) ⊎ (((f : SeatFault) × (text ≡ answer_line (answer.Seat f))) ⊎ (text ≡ fault_line wire.OutOfMemory))

abbrev pub TalksHaveMeanings : Type 0
TalksHaveMeanings =
    (sits then : Option ℕ) (line : List ℕ) (log : List Exchange) (text : List ℕ) →
    ExchangesMean sits line then × (LineTold None line then log text → HellosMean line then log text)

-- a reader that fails had no line at hand, nor more bytes than a line may have; a line that is no configuration is refused
-- for what is wrong with it, or for want of memory; and lines end as too many once a million were answered
pub record EndsMean : Type 0 where
  pub failed : (buffer : List ℕ) (rest : Option (List ℕ)) → FindsLine found.Failed buffer rest →
      ((n : ℕ) → FindsLine (found.Line n) buffer rest → ⊥) × (FindsLine found.TooLong buffer rest → ⊥)
  pub refused : (line text : List ℕ) (f : WireFault) → RefusesOpening line text → config_of line ≡ Err f → (text ≡ fault_line f) ⊎ (text ≡ fault_line wire.OutOfMemory)
  pub too_many : (s t : Seated) (ls : List (List ℕ)) (lines errors : ℕ) (before last : List ℕ) → LinesAnswered TalkSays s 0 0 ls t (Some talk.TooMany) lines errors before last → lines ≡ 1000001
