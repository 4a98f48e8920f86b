use Rattle.std.proofs.Common.{rules, MatchResult}
use Rattle.tg_vault.specs.declared.event.Event.TheVariants as event
use Rattle.tg_vault.specs.declared.event.Answer.TheVariants as answer
use Rattle.tg_vault.specs.Promise.Course.{VaultStep}
use Rattle.tg_share.proofs.ReachedLemmas.{locked_on, reached_by}
use Rattle.tg_share.proofs.locked.Locked.bye.Goals as goal

pub invariant_of-self : goal.invariant_of-self
invariant_of-self g c =
    let step : MatchResult c.bye-answer.result (λ _. VaultStep c.self.inside.vault (event.Bye c.args.seat) answer.Bye c.bye-answer.new.self) (λ fault. VaultStep c.self.inside.vault (event.Bye c.args.seat) (answer.Seat fault) c.bye-answer.new.self) =
    search rules in
    locked_on c.self.invariant (reached_by c.bye-answer.result (λ _. answer.Bye) (λ fault. answer.Seat fault) c.self.inside.vault c.bye-answer.new.self (event.Bye c.args.seat) c.self.invariant.reached step) (search rules)
