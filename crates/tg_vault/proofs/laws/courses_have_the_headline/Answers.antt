use Rattle.tg_vault.proofs.HeadlineLemmas.{courses_have_the_headline}
use Rattle.tg_vault.proofs.laws.courses_have_the_headline.Goals as goal

pub returns : goal.returns
returns c = courses_have_the_headline c.runs_are_complete_and_bounded.ensures.complete c.runs_are_complete_and_bounded.ensures.bounded
