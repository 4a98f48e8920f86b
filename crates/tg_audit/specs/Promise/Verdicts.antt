-- the auditor's verdict on a derivation: the first step that cannot be carried out, or what the goal lacks after all
-- steps
use Rattle.std.specs.Prelude.{◌≡◌, ◌<◌, ℕ, List, take, true, Some, slice_get}
use Rattle.tg_rights.specs.Promise.Letters.{Letters, without}
use Rattle.tg_rights.specs.declared.command.Rule.{Rule}
use Rattle.tg_rights.specs.declared.outcome.Cause.{Cause}
use Rattle.tg_graph.specs.declared.derivation.Goal.{Goal}
use Rattle.tg_graph.specs.declared.derivation.Step.{Step}
use Rattle.tg_graph.specs.declared.derivation.Verdict.{Verdict}
use Rattle.tg_graph.specs.declared.derivation.Verdict.TheVariants as verdict
use Rattle.tg_graph.specs.Promise.Derivations.{Derives, IsShared}
use Rattle.tg_graph.specs.Promise.Protection.{Protection, IsSubject, label}
use Rattle.tg_graph.specs.Promise.Rules.{Allowed, Denied, is_create, last_serial}

-- the step's actor is no subject of the graph
abbrev pub HasNoSubject : Protection → Step → Type 0
HasNoSubject G s = IsSubject G s.actor → ⊥

-- the actor is a subject, and the rules deny the step by that rule for that cause
pub record IsDenied (why : Rule × Cause) (G : Protection) (s : Step) : Type 0 where
  pub subject : IsSubject G s.actor
  pub denied : Denied G s.actor s.command why.0 why.1

-- the rules allow a subject the step, which makes a vertex, and no serial is left
pub record IsWithoutSerial (G : Protection) (s : Step) : Type 0 where
  pub subject : IsSubject G s.actor
  pub allowed : Allowed G s.actor s.command
  pub creates : is_create s.actor s.command ≡ true
  pub none_left : last_serial < G.next

-- the steps before this one are carried out, and this holds of the step and of the graph as it then is
pub record StopsAt (G : Protection) (steps : List Step) (index : ℕ) (Why : Protection → Step → Type 0) : Type 0 where
  pub reached : Protection
  pub step : Step
  pub derived : Derives G (take index steps) reached
  pub at : slice_get steps index ≡ Some step
  pub why : Why reached step

-- all steps are carried out, and the goal is met
pub record IsMet (G : Protection) (steps : List Step) (goal : Goal) : Type 0 where
  pub reached : Protection
  pub derived : Derives G steps reached
  pub shared : IsShared reached goal

-- all steps are carried out, and the label lacks these of the goal's rights
pub record Lacks (G : Protection) (steps : List Step) (goal : Goal) (lacking : Letters) : Type 0 where
  pub reached : Protection
  pub derived : Derives G steps reached
  pub unmet : IsShared reached goal → ⊥
  pub rights : lacking ≡ without goal.rights (label reached goal.from goal.to)

-- the verdict on the steps, starting from the graph G
abbrev pub IsVerdict : Protection → List Step → Goal → Verdict → Type 0
IsVerdict G steps goal verdict.Shared = IsMet G steps goal
IsVerdict G steps goal (verdict.ActorNotSubject index) = StopsAt G steps index HasNoSubject
IsVerdict G steps goal (verdict.StepDenied index rule cause) = StopsAt G steps index (IsDenied (rule, cause))
IsVerdict G steps goal (verdict.StepFull index) = StopsAt G steps index IsWithoutSerial
IsVerdict G steps goal (verdict.GoalMissing rights) = Lacks G steps goal rights
