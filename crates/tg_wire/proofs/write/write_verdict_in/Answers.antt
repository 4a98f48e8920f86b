use Rattle.std.proofs.Common.{[], ap, sym}
use Rattle.tg_wire.specs.Promise.Answers.{verdict_line}
use Rattle.tg_wire.proofs.ObjectLineLemmas.{said_as}
use Rattle.tg_wire.proofs.write.write_verdict_in.Goals as goal

pub returns-in-ActorNotSubject : goal.returns-in-ActorNotSubject
unfolding verdict_line
returns-in-ActorNotSubject c = said_as c.step_line.result _ [] (ap verdict_line (sym c.in-ActorNotSubject.is)) c.step_line.ensures

pub returns-in-StepFull : goal.returns-in-StepFull
unfolding verdict_line
returns-in-StepFull c = said_as c.step_line-in-StepFull.result _ [] (ap verdict_line (sym c.in-StepFull.is)) c.step_line-in-StepFull.ensures
