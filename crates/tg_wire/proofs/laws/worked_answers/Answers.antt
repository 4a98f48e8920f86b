use Rattle.tg_wire.proofs.WorkedAnswersLemmas.{worked}
use Rattle.tg_wire.proofs.laws.worked_answers.Goals as goal

pub returns : goal.returns
returns c = worked
