use Rattle.tg_talk.proofs.MeaningsLemmas.{talks_have_meanings}
use Rattle.tg_talk.proofs.laws.talks_have_meanings.Goals as goal

pub returns : goal.returns
returns c = talks_have_meanings
