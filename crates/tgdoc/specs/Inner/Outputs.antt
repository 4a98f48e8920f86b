-- what is told of a run, by what is asked for
use Rattle.tgdoc.specs.declared.run.Output.{Output}
use Rattle.tgdoc.specs.declared.run.Output.TheVariants as how
use Rattle.tgdoc.specs.Promise.Drawings.{PicturesTold}
use Rattle.tgdoc.specs.Promise.Runs.{AnswersTold, Telling}
use Rattle.tgdoc.specs.Promise.Sharing.{SharingTold}

-- what is told in each way
abbrev pub Told : Output → Telling
Told how.Answers = AnswersTold
Told (how.Pictures each) = PicturesTold each
Told (how.Sharing question) = SharingTold question.now
