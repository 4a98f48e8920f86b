-- what `tgdoc share` writes after the lines of its input: whether rights can ever be shared in the graph to which they led
use Rattle.std.specs.Prelude.{◌≡◌, ◌<◌, ℕ, List, [], ◌∷◌, ◌++◌, Bool, true, false, Option, None, Some, Ok, is_some, flat_map}
use Rattle.tg_graph.specs.Promise.Derivations.{CanShare, Derives, IsShared}
use Rattle.tg_graph.specs.Promise.Protection.{Protection}
use Rattle.tg_graph.specs.Promise.Rewriting.{HasRightsOf}
use Rattle.tg_graph.specs.Promise.Rules.{last_serial}
use Rattle.tg_graph.specs.declared.derivation.Goal.{Goal}
use Rattle.tg_graph.specs.declared.derivation.Step.{Step}
use Rattle.tg_vault.specs.Promise.Contents.{Contents, graph_now}
use Rattle.tg_wire.specs.Promise.Faults.{fault_line}
use Rattle.tg_wire.specs.Promise.Lines.{goal_of, step_of}
use Rattle.tg_wire.specs.Promise.StepLines.{goal_line, goal_text, step_line, step_text}
use Rattle.tg_wire.specs.Promise.Unshared.{unshared_line}
use Rattle.tg_wire.specs.declared.fault.WireFault.TheVariants as wire
use Rattle.tg_wire.specs.declared.unshared.Unshared.TheVariants.{Never, NoSerial}
use Rattle.tg_talk.specs.declared.answering.Finished.{Finished}
use Rattle.tgdoc.specs.Promise.Audits.{OpensGraph}
use Rattle.tgdoc.specs.Promise.Drawings.{EachOrLast, Ending}
use Rattle.tgdoc.specs.Promise.Lookups.{LookedUp}
use Rattle.tgdoc.specs.Promise.Named.{Names, NamesNone}
use Rattle.tgdoc.specs.Promise.Runs.{InputRan, Telling}
use Rattle.tgdoc.specs.declared.question.Pair.{Pair}
use Rattle.tgdoc.specs.declared.question.Question.{Question}
use Rattle.tgdoc.specs.declared.question.Question.TheVariants as question

-- the goal of a question
pub record IsGoalOf (G : Protection) (q : Pair) (goal : Goal) : Type 0 where
  pub from : Names G q.from goal.from
  pub to : Names G q.to goal.to
  pub rights : goal.rights ≡ q.rights

-- each of the steps is read back from its line
abbrev pub AreRead : List Step → Type 0
AreRead [] = Unit {0}
AreRead (s ∷ ss) = (step_of (step_text s) ≡ Ok s) × AreRead ss

-- the lines of steps
abbrev pub steps_text : List Step → List ℕ
steps_text steps = flat_map step_line steps

-- an audit of the text shows that the rights can be shared: the first line opens the graph, the second is the goal, and
-- the others are steps that lead from the graph to the goal
pub record ShowsSharing (opening : Protection) (goal : Goal) (text : List ℕ) : Type 0 where
  pub first : List ℕ
  pub steps : List Step
  pub reached : Protection
  pub is : text ≡ first ++ 10 ∷ (goal_line goal ++ steps_text steps)
  pub opens : OpensGraph opening first
  pub aims : goal_of (goal_text goal) ≡ Ok goal
  pub read : AreRead steps
  pub derived : Derives opening steps reached
  pub shared : IsShared reached goal

-- the text is steps that lead to the goal from each graph with the rights of this one in which nobody has retired
pub record ShowsSteps (G : Protection) (goal : Goal) (text : List ℕ) : Type 0 where
  pub steps : List Step
  pub is : text ≡ steps_text steps
  pub read : AreRead steps
  pub leads : (H : Protection) → HasRightsOf H G → (reached : Protection) × Derives H steps reached × IsShared reached goal

-- what is written for a yes: all of the derivation, or only the steps that the question asks for
abbrev pub Shows : Bool → Contents → Goal → List ℕ → Type 0
Shows true v goal text = ShowsSteps (graph_now v) goal text
Shows false v goal text = ShowsSharing v.opening goal text

-- the answer to whether one vertex can come to have rights over another in the graph to which a vault's history led, and
-- whether it counts as an `error` line
pub data AnsweredPair (v : Contents) (q : Pair) (text : List ℕ) : Bool → Type 0 where
  no_from : NamesNone (graph_now v) q.from text → AnsweredPair v q text true
  no_to : (x : ℕ) → Names (graph_now v) q.from x → NamesNone (graph_now v) q.to text → AnsweredPair v q text true
  -- no steps of any subjects lead to the goal
  never : (goal : Goal) → IsGoalOf (graph_now v) q goal → (CanShare (graph_now v) goal → ⊥) → text ≡ unshared_line Never → AnsweredPair v q text false
  -- there are steps after which no serial is left
  no_serial : (goal : Goal) (steps : List Step) (reached : Protection) → IsGoalOf (graph_now v) q goal → Derives (graph_now v) steps reached → last_serial < reached.next → text ≡ unshared_line NoSerial → AnsweredPair v q text false
  shared : (goal : Goal) → IsGoalOf (graph_now v) q goal → Shows q.steps v goal text → AnsweredPair v q text false
  -- no memory for the answer
  not_answered : text ≡ fault_line wire.OutOfMemory → AnsweredPair v q text true

-- the answer to a question of either kind
abbrev pub Answered : Contents → Question → List ℕ → Bool → Type 0
Answered v (question.Pair pair) text is_error = AnsweredPair v pair text is_error
Answered v (question.Lookup lookup) text is_error = LookedUp (graph_now v) lookup text is_error

abbrev pub AnsweredAtEnd : Question → Ending
AnsweredAtEnd q v ended text is_error = Answered v q text is_error

-- a line that ends the run is answered as by a run, and no question then
abbrev pub SharingTold : Question → Telling
SharingTold q = EachOrLast is_some (AnsweredAtEnd q) false

-- what a whole run does whose question is answered, if the reader has the bytes input
abbrev pub LinesShared : Question → Finished → (old new : Option (List ℕ)) (failed : Bool) → List ℕ → Type 0
LinesShared q finished old new failed = InputRan (SharingTold q) finished old new failed
