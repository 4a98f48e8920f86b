use Rattle.std.proofs.Common.{None, Ok, ap, subst, sym, ◌∙◌}
use Rattle.tg_rights.specs.declared.outcome.Cause.TheVariants as cause
use Rattle.tg_rights.specs.declared.outcome.Outcome.TheVariants as outcome
use Rattle.tg_rights.specs.declared.outcome.Reply.TheVariants as reply
use Rattle.tg_graph.specs.Promise.Terms as effect
use Rattle.tg_graph.specs.Promise.Terms.{terms}
use Rattle.tg_graph.proofs.DecidingLemmas.{only_leave}
use Rattle.tg_vault.specs.Inner.Seen.{graph_seen, set_of}
use Rattle.tg_vault.specs.Inner.CarriedOut.{CarriedOut, answered, denied}
use Rattle.tg_vault.proofs.CarriedOutLemmas.{carried_by, denied_carried, leave_done}
use Rattle.tg_vault.proofs.RetiredLemmas.{leave_allowed, retired_denied}
use Rattle.tg_vault.proofs.carry_out.State.answer_gone.Goals as goal

pub returns-then-is_for_retired : goal.returns-then-is_for_retired
returns-then-is_for_retired c =
    let old = c.args.self.now in
    let retired = set_of old.retired.keys in
    let leaves = only_leave c.args.actor c.args.command.now (sym c.is_for_retired.ensures ∙ c.if-is_for_retired.true) in
    subst (λ told. CarriedOut old (record old { store = c.leave.new.self }) c.args.seat c.args.actor c.args.command.now (answered outcome.Allowed told)) (sym c.requires.told)
    (carried_by old.store c.leave.new.self old.next old.names retired c.args.seat c.requires.listed _ c.args.actor c.args.command.now (effect.Acts None) (Ok reply.Done)
    (ap (λ k. (terms c.args.actor k).does) (sym leaves)) (leave_allowed (graph_seen old.store old.next old.names retired) c.args.actor c.args.command.now leaves)
    (leave_done old.store c.leave.new.self old.next old.names retired c.args.seat c.requires.listed c.args.actor c.leave.ensures.left c.leave.ensures.acted))

pub returns-else-is_for_retired : goal.returns-else-is_for_retired
returns-else-is_for_retired c =
    let old = c.args.self.now in
    let retired = set_of old.retired.keys in
    subst (CarriedOut old old c.args.seat c.args.actor c.args.command.now) (sym (c.deny.ensures ∙ ap (λ rule. denied rule cause.Retired) c.rule.ensures))
    (denied_carried old.store old.next old.names retired c.args.seat c.requires.listed c.args.actor c.args.command.now cause.Retired
    (retired_denied (graph_seen old.store old.next old.names retired) c.args.actor c.args.command.now (sym c.is_for_retired.ensures ∙ c.if-is_for_retired.false) c.requires.retired))
