-- what is written for the lines of an input, by what is done with them
use Rattle.std.specs.Prelude.{ℕ, List, Option, Bool}
use Rattle.tg_talk.specs.declared.answering.Finished.{Finished}
use Rattle.tgdoc.specs.declared.LineMode.{LineMode}
use Rattle.tgdoc.specs.declared.LineMode.TheVariants as line_mode
use Rattle.tgdoc.specs.Promise.Audits.{BytesAudited}
use Rattle.tgdoc.specs.Promise.Drawings.{LinesDrew}
use Rattle.tgdoc.specs.Promise.Runs.{LinesRan}
use Rattle.tgdoc.specs.Promise.Sharing.{LinesShared}

abbrev pub Processed : LineMode → Finished → (old new : Option (List ℕ)) (failed : Bool) → List ℕ → Type 0
Processed line_mode.Run finished old new failed input = LinesRan finished old new failed input
Processed line_mode.Audit finished old new failed input = BytesAudited finished old new failed input
Processed (line_mode.Draw each) finished old new failed input = LinesDrew each finished old new failed input
Processed (line_mode.Share question) finished old new failed input = LinesShared question.now finished old new failed input
