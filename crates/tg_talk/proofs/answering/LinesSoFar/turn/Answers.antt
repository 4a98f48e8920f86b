use Rattle.std.proofs.Common.{[], None, arith}
use Rattle.tg_talk.proofs.AnsweringLemmas.{ends_fault, told_long, told_too_many, told_ended, told_stopped}
use Rattle.tg_talk.proofs.SendsLemmas.{sends_none}
use Rattle.tg_talk.proofs.TakingLemmas.{always, weaker}
use Rattle.tg_talk.specs.Inner.Answering.{Closes, Turned}
use Rattle.tg_talk.specs.Promise.Taking.{Takes}
use Rattle.tg_talk.specs.declared.fault.TalkFault.TheVariants as talk
use Rattle.tg_talk.specs.declared.input_lines.Next.TheVariants as next
use Rattle.tg_talk.proofs.answering.LinesSoFar.turn.Goals as goal

pub returns-in-Failed-clause-turned : goal.returns-in-Failed-clause-turned
returns-in-Failed-clause-turned g c =
    always _ (Closes _ _ _ _ _) (λ xs. record { text = []; told = told_stopped _ _ _ _ xs _ (omega (arith, c.in-Failed.ensures.count)); sent = sends_none _ _ })

pub returns-in-End-clause-turned : goal.returns-in-End-clause-turned
returns-in-End-clause-turned g c =
    weaker _ (Takes next.End 0 [] None) (Closes _ _ _ _ _) c.in-End.ensures.takes
    (λ xs over. record { text = []; told = told_ended _ _ _ _ xs _ (omega (arith, c.in-End.ensures.count)) over; sent = sends_none _ _ })

pub returns-in-Line-clause-turned : goal.returns-in-Line-clause-turned
returns-in-Line-clause-turned g c =
    rw c.answer.ensures.input (weaker _ (Takes next.Line _ _ _) (Turned _ _ _ _ _) c.in-Line.ensures.takes
    (λ xs (within, takes). c.answer.ensures.answered _ _ _ xs within c.in-Line.ensures.short c.in-Line.ensures.count takes))

pub returns-in-TooLong-clause-turned : goal.returns-in-TooLong-clause-turned
returns-in-TooLong-clause-turned g c =
    rw c.refuse.ensures.input (weaker _ (Takes next.TooLong _ [] None) (Closes _ _ _ _ _) c.in-TooLong.ensures.takes
    (λ xs (within, (line, has, long)). record {
      text = c.error_line-text.result.now;
      told = told_long _ _ _ _ xs _ _ _ _ line within long has c.in-TooLong.ensures.count c.refuse.ensures.errors c.error_line-text.ensures (ends_fault talk.TooLong _ _ c.refuse.ensures.fault);
      sent = c.refuse.ensures.sent;
    }))

pub returns-in-TooMany-clause-turned : goal.returns-in-TooMany-clause-turned
returns-in-TooMany-clause-turned g c =
    rw c.refuse-in-TooMany.ensures.input (weaker _ (Takes next.TooMany _ [] None) (Closes _ _ _ _ _) c.in-TooMany.ensures.takes
    (λ xs (full, (line, has)). record {
      text = c.too_many_line.result.now;
      told = told_too_many _ _ _ _ xs _ _ _ _ line full has c.in-TooMany.ensures.count c.refuse-in-TooMany.ensures.errors c.too_many_line.ensures (ends_fault talk.TooMany _ _ c.refuse-in-TooMany.ensures.fault);
      sent = c.refuse-in-TooMany.ensures.sent;
    }))
