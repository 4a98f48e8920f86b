use Rattle.std.proofs.Common.{[], refl, sym}
use Rattle.tg_talk.proofs.AnsweringLemmas.{cut_fault, ends_fault, ends_there, line_closes, line_continues}
use Rattle.tg_talk.proofs.SendsLemmas.{sends_keeps}
use Rattle.tg_talk.specs.Promise.Answering.{cut, over, shown_line, untold}
use Rattle.tg_talk.specs.declared.fault.TalkFault.TheVariants as talk
use Rattle.tg_talk.proofs.answering.LinesSoFar.answer.Goals as goal

pub returns-in-None-clause-answered : goal.returns-in-None-clause-answered
returns-in-None-clause-answered g c unread =
    rw (sym c.line.ensures) (line_continues _ _ _ _ (shown_line c.respond.new.room c.in-Answer.text) _ _ _ _ unread _ _ _ c.in-None.ensures.fault c.send.ensures.errors c.in-Answer.ensures.says c.send.ensures.sent)

pub returns-in-Some-clause-answered : goal.returns-in-Some-clause-answered
returns-in-Some-clause-answered g c unread =
    rw (sym c.line.ensures) (line_closes _ _ _ _ _ (shown_line c.respond.new.room c.in-Answer.text) _ _ _ unread _ _ _
    (λ m ls within short count. rw (cut_fault _ _ c.in-Some.ensures.fault) (cut within short c.in-Answer.ensures.says count c.send.ensures.errors)) c.send.ensures.sent)

pub returns-in-Last-clause-answered : goal.returns-in-Last-clause-answered
returns-in-Last-clause-answered g c unread =
    rw (sym c.line.ensures) (line_closes _ _ _ _ _ (shown_line c.respond.new.room c.in-Last.text) _ _ _ unread _ _ _
    (λ m ls within short count. over within short c.in-Last.ensures.says (ends_there _ _ c.send_last.ensures.fault) count c.send_last.ensures.errors) c.send_last.ensures.sent)

pub returns-in-Nothing-clause-answered : goal.returns-in-Nothing-clause-answered
returns-in-Nothing-clause-answered g c unread =
    rw (sym c.line.ensures) (line_closes _ _ _ _ _ [] _ _ _ unread _ _ _
    (λ m ls within short count. untold within short c.in-Nothing.ensures.says (ends_fault talk.OutOfMemory _ _ c.pay_last.ensures.fault) count refl) (sends_keeps _ _ _ c.pay_last.ensures.kept))
