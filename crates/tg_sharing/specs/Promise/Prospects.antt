-- all that a vertex could ever come to have
use Rattle.std.specs.Prelude.{◌≡◌, ◌≢◌, ◌<◌, ◌⊎◌, ◌↔◌, ℕ, List, length}
use Rattle.tg_lists.specs.Promise.Membership.{Contains}
use Rattle.tg_rights.specs.Promise.Letters.{Letters, Right}
use Rattle.tg_graph.specs.Promise.Derivations.{CanShare, Derives}
use Rattle.tg_graph.specs.declared.derivation.Goal.{Goal}
use Rattle.tg_graph.specs.declared.derivation.Step.{Step}
use Rattle.tg_graph.specs.Promise.Rules.{last_serial}
use Rattle.tg_graph.specs.Promise.Protection.{Protection, IsEdge, IsVertex, label}
use Rattle.tg_sharing.specs.Promise.Fetching.{alone}
use Rattle.tg_graph.specs.Promise.EachCommand.{HasOver}
use Rattle.tg_sharing.specs.declared.prospect.Could.{Could}
use Rattle.tg_sharing.specs.declared.prospect.Could.TheVariants as could
use Rattle.tg_sharing.specs.declared.prospect.Prospect.{Prospect}

-- the list has the vertices of G over which `from` has rights in H, each with its label
abbrev pub AreLabelsOf : Protection → Protection → ℕ → List (ℕ × Letters) → Type 0
AreLabelsOf G H from labels = (y : ℕ) (α : Letters) → Contains labels (y, α) ↔ (IsVertex G y × IsEdge H from y × (α ≡ label H from y))

-- the steps lead to a graph in which `from` has what the list says, and no steps give it a right that it lacks there
pub record IsProspect (G : Protection) (from : ℕ) (p : Prospect) : Type 0 where
  pub reached : Protection
  pub derived : Derives G p.steps.items reached
  pub labels : AreLabelsOf G reached from p.labels.items
  pub whole : (y : ℕ) (r : Right) → IsVertex G y → y ≢ from → (HasOver reached from r y → ⊥) → CanShare G (record { from = from; to = y; rights = alone r }) → ⊥

-- more steps than so many can be carried out, or steps after which no serial is left
abbrev pub IsTooMuch : Protection → ℕ → Type 0
IsTooMuch G most = (steps : List Step) × (H : Protection) × Derives G steps H × ((last_serial < H.next) ⊎ (most < length steps))

-- no steps lead to the goal; some do; or it is not known, and no serial is left after some
abbrev pub IsCould : Protection → Goal → Could → Type 0
IsCould G goal could.Never = CanShare G goal → ⊥
IsCould G goal could.Ever = CanShare G goal
IsCould G goal could.Unknown = (steps : List Step) × (H : Protection) × Derives G steps H × (last_serial < H.next)

-- each vertex that was asked for is listed, and nothing else, with whether it could ever come to have the rights
pub record AreCould (G : Protection) (α : Letters) (to : ℕ) (asked : List ℕ) (found : List (ℕ × Could)) : Type 0 where
  pub sound : (v : ℕ) (c : Could) → Contains found (v, c) → Contains asked v × IsVertex G v × IsCould G (record { from = v; to = to; rights = α }) c
  pub whole : (v : ℕ) → Contains asked v → IsVertex G v → (c : Could) × Contains found (v, c)
