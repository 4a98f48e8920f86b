use Rattle.std.proofs.Common.{ap, ◌∙◌}
use Rattle.tg_share.specs.Promise.Reached.{UnderLock}
use Rattle.tg_share.proofs.AnsweredLemmas.{answered_hello}
use Rattle.tg_share.proofs.hold.Hold.hello.Goals as goal

pub returns-clause-event : goal.returns-clause-event
returns-clause-event g c =
    answered_hello c.hello.result c.args.self _ c.hello.new.self.vault c.args.seat _ c.args.name.now c.hello.ensures.reached
    (ap (λ (l : UnderLock). l.vault) c.deref_mut.ensures.value ∙ c.self.view_is) c.hello.ensures.event c.hello.ensures.none
