use Rattle.tg_marking.proofs.KeepLemmas.{lines}
use Rattle.tg_marking.proofs.lines_keep.Goals as goal

pub returns : goal.returns
returns c = lines
