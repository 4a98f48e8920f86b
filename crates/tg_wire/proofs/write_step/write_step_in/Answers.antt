use Rattle.std.proofs.Common.{[], ap, sym}
use Rattle.serde_json.specs.Data.{object}
use Rattle.tg_rights.specs.declared.command.Command.{Command}
use Rattle.tg_wire.specs.Promise.Faults.{line_text}
use Rattle.tg_wire.specs.Promise.StepLines.{step_line, step_members}
use Rattle.tg_wire.proofs.ObjectLineLemmas.{said_as}
use Rattle.tg_wire.proofs.write_step.write_step_in.Goals as goal

pub returns-in-Take : goal.returns-in-Take
unfolding step_line
returns-in-Take c =
    said_as c.object_line.result _ [] (ap (λ (k : Command). line_text (object (step_members c.args.step.now.actor k))) (sym c.in-Take.is)) c.object_line.ensures
