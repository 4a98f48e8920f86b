use Rattle.std.proofs.Common.{ap, ◌∙◌}
use Rattle.tg_vault.specs.declared.event.Event.TheVariants as event
use Rattle.tg_vault.specs.declared.event.Answer.TheVariants as answer
use Rattle.tg_share.specs.Promise.Reached.{UnderLock}
use Rattle.tg_share.proofs.AnsweredLemmas.{answered_by}
use Rattle.tg_share.proofs.hold.Hold.shade.Goals as goal

pub returns : goal.returns
returns g c =
    answered_by c.shade.result (λ target. answer.Shaded target) (λ fault. answer.Seat fault) c.args.self _ c.shade.new.self.vault (event.Shade c.args.seat)
    c.shade.ensures.reached (ap (λ (l : UnderLock). l.vault) c.deref_mut.ensures.value ∙ c.self.view_is) c.shade.ensures.event
