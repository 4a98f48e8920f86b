use Rattle.tg_vault.proofs.MeaningsLemmas.{reads_tell_no_more}
use Rattle.tg_vault.proofs.laws.reads_tell_no_more.Goals as goal

pub returns : goal.returns
returns c = reads_tell_no_more
