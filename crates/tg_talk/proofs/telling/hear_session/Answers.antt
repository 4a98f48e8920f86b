use Rattle.std.proofs.Common.{Ok, refl, ap, ◌∙◌}
use Rattle.tg_wire.specs.declared.line.Line.TheVariants.{Act}
use Rattle.tg_talk.proofs.ToldLemmas.{heard_refused, heard_for_none, heard_hello, heard_ask}
use Rattle.tg_talk.specs.Promise.Answering.{saying}
use Rattle.tg_talk.proofs.telling.hear_session.Goals as goal

pub returns-in-Err-clause-heard : goal.returns-in-Err-clause-heard
returns-in-Err-clause-heard g c = heard_refused c.args.session.now c.args.bytes.now c.in-Err.fault c.in-Err.ensures.answered

pub returns-in-Cycle-clause-heard : goal.returns-in-Cycle-clause-heard
returns-in-Cycle-clause-heard g c = heard_for_none c.args.session.now c.args.bytes.now _ (c.in-Ok.ensures.answered ∙ ap Ok c.in-Cycle.is) refl

pub returns-in-Hello-clause-heard : goal.returns-in-Hello-clause-heard
returns-in-Hello-clause-heard g c =
    heard_hello c.args.session.now c.args.bytes.now _ _ _ (c.in-Ok.ensures.answered ∙ ap Ok c.in-Act.is ∙ ap (λ e. Ok (Act e)) c.in-Hello.is) (_, c.text_of_answer.ensures)

pub returns-in-Ask-clause-heard : goal.returns-in-Ask-clause-heard
returns-in-Ask-clause-heard g c =
    heard_ask c.args.session.now c.ask.new.session c.args.bytes.now (saying c.ask.new.room c.ask.result) _ _ (c.in-Ok.ensures.answered ∙ ap Ok c.in-Act.is ∙ ap (λ e. Ok (Act e)) c.in-Ask.is) c.ask.ensures

pub returns-in-Shade-clause-heard : goal.returns-in-Shade-clause-heard
returns-in-Shade-clause-heard g c =
    heard_for_none c.args.session.now c.args.bytes.now _ (c.in-Ok.ensures.answered ∙ ap Ok c.in-Act.is ∙ ap (λ e. Ok (Act e)) c.in-Shade.is) refl

pub returns-clause-heard : goal.returns-clause-heard
returns-clause-heard g c =
    heard_for_none c.args.session.now c.args.bytes.now _ (c.in-Ok.ensures.answered ∙ ap Ok c.in-Act.is ∙ ap (λ e. Ok (Act e)) c.in-Collect.is) refl
