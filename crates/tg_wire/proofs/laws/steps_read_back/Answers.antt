use Rattle.tg_wire.proofs.StepLinesLemmas.{step_back}
use Rattle.tg_wire.proofs.laws.steps_read_back.Goals as goal

pub returns : goal.returns
returns c = step_back
