use Rattle.std.proofs.Common.{ap, ◌∙◌}
use Rattle.tg_vault.specs.declared.event.Event.TheVariants as event
use Rattle.tg_vault.specs.declared.event.Answer.TheVariants as answer
use Rattle.tg_share.specs.Promise.Reached.{UnderLock}
use Rattle.tg_share.proofs.AnsweredLemmas.{answered_on}
use Rattle.tg_share.proofs.hold.Hold.collect.Goals as goal

pub returns : goal.returns
returns g c =
    answered_on c.args.self _ c.collect.new.self.vault event.Collect (answer.Noted c.collect.result)
    c.collect.ensures.reached (ap (λ (l : UnderLock). l.vault) c.deref_mut.ensures.value ∙ c.self.view_is) c.collect.ensures.event
