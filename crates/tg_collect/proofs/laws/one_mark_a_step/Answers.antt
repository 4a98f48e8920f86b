use Rattle.tg_collect.proofs.MarksLemmas.{one_mark}
use Rattle.tg_collect.proofs.laws.one_mark_a_step.Goals as goal

pub returns : goal.returns
returns c = one_mark
