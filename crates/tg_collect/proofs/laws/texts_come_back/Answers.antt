use Rattle.tg_collect.proofs.TextLemmas.{texts_come_back}
use Rattle.tg_collect.proofs.laws.texts_come_back.Goals as goal

pub returns : goal.returns
returns c = texts_come_back
