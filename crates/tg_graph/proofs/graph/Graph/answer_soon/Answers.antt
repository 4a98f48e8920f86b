use Rattle.std.proofs.Common.{sym, subst}
use Rattle.tg_rights.specs.declared.command.Command.{Command}
use Rattle.tg_graph.specs.Promise.Repeating.{Repeats}
use Rattle.tg_graph.proofs.RepeatingLemmas.{repeats_read}
use Rattle.tg_graph.proofs.graph.Graph.answer_soon.Goals as goal

pub returns-clause-ok : goal.returns-clause-ok
returns-clause-ok c =
    subst (λ (k : Command). Repeats c.args.self.now c.args.actor k c.args.told.now c.in-Some.same c.args.self.now) (sym c.in-Read.is)
    (repeats_read c.args.self.now c.args.actor c.in-Read.over c.args.told.now c.in-Some.same c.in-Some.ensures.allowed c.in-Some.ensures.same)
