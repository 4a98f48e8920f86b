use Rattle.std.proofs.Common.{◌∙◌, refl}
use Rattle.tg_talk.specs.Promise.Answering.{is_wrong, one_if, shown_line}
use Rattle.tgdoc.proofs.pictures.ArtistResponder.respond.Goals as goal

pub returns-clause-says : goal.returns-clause-says
returns-clause-says c = record {
  same = refl;
  answer = shown_line c.answer_apart-answered.new.room c.answer_apart-answered.result;
  count = one_if (is_wrong c.answer_apart-answered.result);
  answers = c.answer_apart-answered.ensures;
  shown = c.shown.ensures;
}

pub returns-clause-stays : goal.returns-clause-stays
returns-clause-stays c = λ start so_far. (so_far.0, c.answer_apart-answered.ensures.keeps.opening ∙ so_far.1)
