-- laws of sharing
use Rattle.std.specs.Prelude.{◌≡◌, ◌≢◌, ◌<◌, ℕ, Bool, true, List, []}
use Rattle.tg_lists.specs.Promise.Membership.{Contains}
use Rattle.tg_rights.specs.Promise.Letters.{Letters, Right, has}
use Rattle.tg_graph.specs.declared.derivation.Goal.{Goal}
use Rattle.tg_graph.specs.declared.derivation.Step.{Step}
use Rattle.tg_graph.specs.Promise.Derivations.{CanShare}
use Rattle.tg_graph.specs.Promise.Protection.{Protection, IsGraph, IsVertex}
use Rattle.tg_sharing.specs.Promise.Answers.{AreStepsTo}
use Rattle.tg_sharing.specs.Promise.Fetching.{alone}
use Rattle.tg_sharing.specs.Promise.Lookups.{AreMany}
use Rattle.tg_sharing.specs.Promise.Prospects.{AreCould, IsProspect}
use Rattle.tg_sharing.specs.declared.prospect.Prospect.{Prospect}
use Rattle.tg_sharing.specs.Promise.Spans.{AreClosed, IsWithheld}

-- a right of the goal that all spanned vertices lack is never shared: no steps lead to a graph in which the goal is met
abbrev pub WithheldForEver : Type 0
WithheldForEver =
    (G : Protection) (goal : Goal) (spanned bridged : ℕ → Bool) (r : Right) → IsGraph G → goal.from < G.next → goal.to < G.next →
    AreClosed G goal.from spanned bridged → has goal.rights r ≡ true → IsWithheld G goal.from spanned r goal.to →
    CanShare G goal → ⊥

-- what answers mean for whoever reads them: a goal to which steps lead can be shared; a graph with more than no vertices
-- has one; if nobody is listed who could have rights, nobody who was asked for is a vertex; and if no labels are listed
-- that a vertex could have, it can never come to have a right
pub record SharingMeans (G : Protection) : Type 0 where
  pub shared : (goal : Goal) (steps : List Step) → AreStepsTo G goal steps → CanShare G goal
  pub many : AreMany G 0 → (v : ℕ) × IsVertex G v
  pub nobody : (α : Letters) (to v : ℕ) (asked : List ℕ) → AreCould G α to asked [] → Contains asked v → IsVertex G v → ⊥
  pub nothing : (from y : ℕ) (r : Right) (p : Prospect) → IsProspect G from p → p.labels.items ≡ [] → IsVertex G y → y ≢ from →
      CanShare G (record { from = from; to = y; rights = alone r }) → ⊥

abbrev pub SharingHasMeaning : Type 0
SharingHasMeaning = (G : Protection) → SharingMeans G
