use Rattle.std.proofs.Common.{◌∙◌, sym}
use Rattle.tg_rights.proofs.EqualityLemmas.{commands_decided}
use Rattle.tg_audit.proofs.following.is_asked.Goals as goal

pub returns-then-actor-exchange : goal.returns-then-actor-exchange
returns-then-actor-exchange c =
    let commands = commands_decided c.command.result.now c.args.exchange.now.command in (
      λ e. (sym c.actor.ensures ∙ c.if-actor-exchange.true, sym c.command.ensures ∙ commands.0 (sym c.eq.ensures ∙ e)),
      λ both. c.eq.ensures ∙ commands.1 (c.command.ensures ∙ both.1),
    )
