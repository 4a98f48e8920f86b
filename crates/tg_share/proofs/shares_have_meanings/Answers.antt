use Rattle.tg_share.proofs.MeaningsLemmas.{shares_mean}
use Rattle.tg_share.proofs.shares_have_meanings.Goals as goal

pub returns : goal.returns
returns c = shares_mean
