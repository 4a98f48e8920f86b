use Rattle.std.proofs.Common.{◌≡◌, sym, ap, ◌∙◌, refl, ◌<◌, arith, rules}
use Rattle.tg_rights.specs.declared.outcome.Which.TheVariants as which
use Rattle.tg_rights.specs.declared.outcome.Outcome.TheVariants as outcome
use Rattle.tg_rights.specs.declared.outcome.Reply.TheVariants as reply
use Rattle.tg_graph.specs.Promise.Protection.{Protection}
use Rattle.tg_graph.specs.Promise.Rules.{last_serial}
use Rattle.tg_graph.proofs.RepeatingLemmas.{repeats_allowed}
use Rattle.tg_graph.proofs.graph.Graph.answer_again.Goals as goal

pub returns-in-Allowed-clause-ok : goal.returns-in-Allowed-clause-ok
returns-in-Allowed-clause-ok c =
    let next : c.self.inside.next ≡ c.args.self.now.next = ap (λ (G : Protection). G.next) c.self.view_is in
    let past : last_serial < c.args.self.now.next = omega arith in
    (reply.Full which.Serials, (outcome.Full which.Serials, (c.in-Allowed.ensures, sym c.is_create.ensures ∙ c.if-is_create.true, past), refl, refl), c.is_reply.ensures)

pub returns-in-Denied-clause-ok : goal.returns-in-Denied-clause-ok
returns-in-Denied-clause-ok c =
    (reply.Denied c.in-Denied.rule c.in-Denied.cause, (outcome.Denied c.in-Denied.rule c.in-Denied.cause, c.in-Denied.ensures, refl, refl), c.is_reply-in-Denied.ensures)

pub returns-in-Allowed-2-clause-ok : goal.returns-in-Allowed-2-clause-ok
returns-in-Allowed-2-clause-ok c =
    repeats_allowed c.args.self.now c.carry_out_again.new.self c.args.actor c.args.command.now c.args.told.now c.carry_out_again.result (search rules) c.carry_out_again.ensures.same c.carry_out_again.ensures.ok
