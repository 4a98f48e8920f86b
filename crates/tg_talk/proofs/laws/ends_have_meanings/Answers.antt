use Rattle.tg_talk.proofs.EndsLemmas.{ends_mean}
use Rattle.tg_talk.proofs.laws.ends_have_meanings.Goals as goal

pub returns : goal.returns
returns c = ends_mean
