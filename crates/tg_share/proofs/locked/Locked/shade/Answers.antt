use Rattle.std.proofs.Common.{rules, MatchResult}
use Rattle.tg_vault.specs.declared.event.Event.TheVariants as event
use Rattle.tg_vault.specs.declared.event.Answer.TheVariants as answer
use Rattle.tg_vault.specs.Promise.Course.{VaultStep}
use Rattle.tg_share.proofs.ReachedLemmas.{locked_on, reached_by}
use Rattle.tg_share.proofs.locked.Locked.shade.Goals as goal

pub invariant_of-self : goal.invariant_of-self
invariant_of-self g c =
    let step : MatchResult c.shade-answer.result (λ target. VaultStep c.self.inside.vault (event.Shade c.args.seat) (answer.Shaded target) c.shade-answer.new.self) (λ fault. VaultStep c.self.inside.vault (event.Shade c.args.seat) (answer.Seat fault) c.shade-answer.new.self) =
    search rules in
    locked_on c.self.invariant (reached_by c.shade-answer.result (λ target. answer.Shaded target) (λ fault. answer.Seat fault) c.self.inside.vault c.shade-answer.new.self (event.Shade c.args.seat) c.self.invariant.reached step) (search rules)
