-- derivations: what the rules can bring about, step by step
use Rattle.std.specs.Prelude.{◌≡◌, ◌≤◌, List, [], ◌∷◌, true, IsTrue}
use Rattle.tg_rights.specs.Promise.Letters.{includes}
use Rattle.tg_graph.specs.declared.derivation.Step.{Step}
use Rattle.tg_graph.specs.declared.derivation.Goal.{Goal}
use Rattle.tg_graph.specs.Promise.Protection.{Protection, IsSubject, label}
use Rattle.tg_graph.specs.Promise.Rules.{Allowed, after, is_create, last_serial}

-- a subject's command that the rules allow, with a serial left for a create, turns G into H
pub record CarriesOut (G : Protection) (step : Step) (H : Protection) : Type 0 where
  pub subject : IsSubject G step.actor
  pub allowed : Allowed G step.actor step.command
  pub room : is_create step.actor step.command ≡ true → G.next ≤ last_serial
  pub result : H ≡ after G step.actor step.command

-- the steps, one after another, turn G into H
abbrev pub Derives : Protection → List Step → Protection → Type 0
Derives G [] H = H ≡ G
Derives G (s ∷ ss) H = (between : Protection) × CarriesOut G s between × Derives between ss H

-- the label from one vertex to the other has the goal's rights
abbrev pub IsShared : Protection → Goal → Type 0
IsShared G goal = IsTrue (includes (label G goal.from goal.to) goal.rights)

-- some list of steps leads to a graph in which the goal's rights are there (Bishop's can.share, for a set of rights)
pub record CanShare (G : Protection) (goal : Goal) : Type 0 where
  pub steps : List Step
  pub reached : Protection
  pub derived : Derives G steps reached
  pub shared : IsShared reached goal
