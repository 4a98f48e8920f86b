use Rattle.std.proofs.Common.{refl}
use Rattle.tg_share.proofs.AnsweredLemmas.{asked_last}
use Rattle.tg_share.proofs.session.Session.submit.Goals as goal

pub returns : goal.returns
returns g c =
    let entered = c.in_ok-carry_out.ensures.ok in
    let asked = asked_last c.args.self.now c.carry_out.new.self c.args.command entered.0 c.last_reply.result.now c.last_reply.ensures entered.1 in
    ((refl, (λ _. tt), asked), record { asked = tt; no_seat = λ h. cc })
