use Rattle.std.proofs.Common.{rules, subst, IfErr}
use Rattle.tg_rights.specs.declared.command.Command.{Command}
use Rattle.tg_share.specs.Promise.Reached.{IsEntered}
use Rattle.tg_share.specs.Promise.Sessions.{IsRefused, Sitting}
use Rattle.tg_share.proofs.AnsweredLemmas.{ask_refused}
use Rattle.tg_share.proofs.session.Session.carry_out.Goals as goal

pub returns-clause-ok : goal.returns-clause-ok
returns-clause-ok g c =
    let v = c.hold.result in
    let x = c.in_ok-actor.actor in
    let r = c.in_ok-actor.reply in
    let asked = subst (λ (d : Command). IsEntered v c.self.inside.seat x d r) c.in-Ok-copy.ensures.equal c.in_ok-actor.ensures.event in
    (r, record { actor = x; vault = v; entered = subst (λ (s : Sitting). IsEntered v s.seat x c.args.command r) c.self.view_is asked; grown = search rules })

pub returns-in_err-actor-clause-refused : goal.returns-in_err-actor-clause-refused
returns-in_err-actor-clause-refused g c =
    let asked = ask_refused c.from_residual.result c.in_err-actor.field-0.0 c.hold.result c.self.inside.seat c.in-Ok-copy.asked c.args.command c.from_residual.ensures.1 c.in-Ok-copy.ensures.equal c.in_err-actor.ensures.event in
    subst (λ (s : Sitting). IfErr c.from_residual.result (λ fault. IsRefused s.seat c.args.command fault)) c.self.view_is asked
