use Rattle.std.proofs.Common.{rules, arith}
use Rattle.tg_vault.specs.declared.event.Event.TheVariants as event
use Rattle.tg_vault.specs.declared.event.Answer.TheVariants as answer
use Rattle.tg_vault.specs.Promise.Course.{VaultStep}
use Rattle.tg_share.proofs.ReachedLemmas.{entry_more, locked_on, reached_on}
use Rattle.tg_share.proofs.locked.Locked.ask.Goals as goal

pub invariant_of-self-2 : goal.invariant_of-self-2
invariant_of-self-2 g c =
    let step : VaultStep c.self.inside.vault (event.Ask c.args.seat c.args.command) (answer.Asked c.in_ok-number.number c.in_ok-number.reply) c.command-answer.new.self = search rules in
    locked_on c.self.invariant (reached_on c.self.inside.vault c.command-answer.new.self (event.Ask c.args.seat c.args.command) (answer.Asked c.in_ok-number.number c.in_ok-number.reply) c.self.invariant.reached step)
    (omega (arith, c.add.ensures.total, c.self.invariant.counted, entry_more step))
