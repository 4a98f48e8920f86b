use Rattle.tg_wire.proofs.StepLinesLemmas.{goal_back}
use Rattle.tg_wire.proofs.laws.goals_read_back.Goals as goal

pub returns : goal.returns
returns c = goal_back
