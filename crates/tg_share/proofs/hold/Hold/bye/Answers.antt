use Rattle.std.proofs.Common.{ap, ◌∙◌}
use Rattle.tg_vault.specs.declared.event.Event.TheVariants as event
use Rattle.tg_vault.specs.declared.event.Answer.TheVariants as answer
use Rattle.tg_share.specs.Promise.Reached.{UnderLock}
use Rattle.tg_share.proofs.AnsweredLemmas.{answered_by}
use Rattle.tg_share.proofs.hold.Hold.bye.Goals as goal

pub returns : goal.returns
returns g c =
    answered_by c.bye.result (λ _. answer.Bye) (λ fault. answer.Seat fault) c.args.self _ c.bye.new.self.vault (event.Bye c.args.seat)
    c.bye.ensures.reached (ap (λ (l : UnderLock). l.vault) c.deref_mut.ensures.value ∙ c.self.view_is) c.bye.ensures.event
