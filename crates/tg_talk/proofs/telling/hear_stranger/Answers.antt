use Rattle.std.proofs.Common.{subst, sym}
use Rattle.tg_talk.proofs.ToldLemmas.{stranger_refused, stranger_unknown, stranger_not_seated, stranger_seated}
use Rattle.tg_talk.specs.Promise.Answering.{shown_line}
use Rattle.tg_talk.specs.Inner.Talking.{IsHello, Tells}
use Rattle.tg_vault.specs.declared.event.Answer.TheVariants as answer
use Rattle.tg_talk.proofs.telling.hear_stranger.Goals as goal

pub returns-in-Err-clause-told : goal.returns-in-Err-clause-told
returns-in-Err-clause-told g c = stranger_refused c.args.bytes.now c.in-Err.fault c.in-Err.ensures.answered

pub returns-in-None-clause-told : goal.returns-in-None-clause-told
returns-in-None-clause-told g c = stranger_unknown c.args.bytes.now _ c.in-Ok.line c.in-Ok.ensures.answered c.in-None.ensures.other (_, c.text_of_answer.ensures)

pub returns-in-Err-session-clause-told : goal.returns-in-Err-session-clause-told
returns-in-Err-session-clause-told g c =
    let hello : IsHello c.in-Ok.line c.get.result.now = subst (IsHello c.in-Ok.line) (sym c.get.ensures) c.in-Some.ensures.hello in
    stranger_not_seated c.args.bytes.now _ _ c.in-Ok.line c.args.seat _ c.in-Ok.ensures.answered hello c.in-Err-session.ensures.refused (_, c.text_of_answer-in-Err-session.ensures)

pub returns-clause-told : goal.returns-clause-told
returns-clause-told g c =
    let hello : IsHello c.in-Ok.line c.get.result.now = subst (IsHello c.in-Ok.line) (sym c.get.ensures) c.in-Some.ensures.hello in
    let tells : Tells (answer.Hello c.in-Ok-session.session.actor) (shown_line c.text_of_answer-text.new.room c.text_of_answer-text.result) = subst (λ actor. Tells (answer.Hello actor) (shown_line c.text_of_answer-text.new.room c.text_of_answer-text.result)) c.actor.ensures (_, c.text_of_answer-text.ensures) in
    stranger_seated c.args.bytes.now _ _ c.in-Ok.line c.args.seat c.in-Ok-session.session c.in-Ok.ensures.answered hello c.in-Ok-session.ensures.ok.1 c.in-Ok-session.ensures.seated tells
