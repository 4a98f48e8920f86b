use Rattle.std.proofs.Common.{rules}
use Rattle.tg_vault.specs.declared.event.Event.TheVariants as event
use Rattle.tg_vault.specs.declared.event.Answer.TheVariants as answer
use Rattle.tg_vault.specs.Promise.Course.{VaultStep}
use Rattle.tg_share.proofs.ReachedLemmas.{locked_on, reached_on}
use Rattle.tg_share.proofs.locked.Locked.collect.Goals as goal

pub invariant_of-self : goal.invariant_of-self
invariant_of-self g c =
    let step : VaultStep c.self.inside.vault event.Collect (answer.Noted c.collect-note.result) c.collect-note.new.self = search rules in
    locked_on c.self.invariant (reached_on c.self.inside.vault c.collect-note.new.self event.Collect (answer.Noted c.collect-note.result) c.self.invariant.reached step) (search rules)
