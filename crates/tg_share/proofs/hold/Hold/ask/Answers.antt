use Rattle.std.proofs.Common.{ap, ◌∙◌}
use Rattle.tg_share.specs.Promise.Reached.{UnderLock}
use Rattle.tg_share.proofs.AnsweredLemmas.{answered_ask}
use Rattle.tg_share.proofs.hold.Hold.ask.Goals as goal

pub returns-clause-event : goal.returns-clause-event
returns-clause-event g c =
    answered_ask c.ask.result c.args.self _ c.ask.new.self.vault c.args.seat c.args.command c.ask.ensures.reached
    (ap (λ (l : UnderLock). l.vault) c.deref_mut.ensures.value ∙ c.self.view_is) c.ask.ensures.event c.ask.ensures.actor
