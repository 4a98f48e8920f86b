use Rattle.tg_draw.proofs.DrawnOnExamples.{drawn}
use Rattle.tg_draw.proofs.laws.drawn_on_examples.Goals as goal

pub returns : goal.returns
returns c = drawn
