-- what is done to answer a question after the last line
use Rattle.std.specs.Prelude.{◌≡◌, ℕ, List, [], ◌∷◌, Bool, false, Option, Some, is_some}
use Rattle.tg_graph.specs.Promise.Derivations.{Derives, IsShared}
use Rattle.tg_graph.specs.Promise.Protection.{Protection}
use Rattle.tg_graph.specs.Promise.Rewriting.{rewriting}
use Rattle.tg_graph.specs.declared.derivation.Goal.{Goal}
use Rattle.tg_graph.specs.declared.derivation.Step.{Step}
use Rattle.tg_vault.specs.Promise.Contents.{Contents}
use Rattle.tg_talk.specs.declared.answering.Finished.{Finished}
use Rattle.tgdoc.specs.Inner.Drawing.{EndsWith}
use Rattle.tgdoc.specs.Promise.Sharing.{AnsweredAtEnd}
use Rattle.tgdoc.specs.declared.question.Question.{Question}

-- each step is by one of the four rules
abbrev pub AreRewritten : List Step → Type 0
AreRewritten [] = Unit {0}
AreRewritten (s ∷ ss) = (rewriting s.command ≡ Some s.command) × AreRewritten ss

-- the steps lead from the graph to the goal
abbrev pub FoundSteps : Protection → Goal → List Step → Type 0
FoundSteps G goal steps = (reached : Protection) × Derives G steps reached × IsShared reached goal

-- the question is answered once the lines have ended in this way, unless a fault ended them
abbrev pub EndsSharing : Contents → Question → (ended finished : Finished) → (old : Option (List ℕ)) → (was : Bool) → (new : Option (List ℕ)) → (failed : Bool) → Type 0
EndsSharing v q ended finished old was new failed = EndsWith false is_some (AnsweredAtEnd q v) ended finished old was new failed
