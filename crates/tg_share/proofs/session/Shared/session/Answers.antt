use Rattle.tg_share.proofs.AnsweredLemmas.{hello_refused}
use Rattle.tg_share.proofs.session.Shared.session.Goals as goal

pub returns-in_err-actor-clause-refused : goal.returns-in_err-actor-clause-refused
returns-in_err-actor-clause-refused g c = hello_refused c.from_residual.result c.in_err-actor.field-0.0 c.hold.result c.args.seat c.args.name.now c.from_residual.ensures.1 c.in_err-actor.ensures.event

pub returns-clause-seated : goal.returns-clause-seated
returns-clause-seated g c = record { vault = c.hold.result; answered = c.in_ok-actor.ensures.event }
