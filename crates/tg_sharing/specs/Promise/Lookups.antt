-- all vertices that could ever come to have rights over one, and all over which one could
use Rattle.std.specs.Prelude.{◌≡◌, ◌<◌, ◌↔◌, ℕ, List, length}
use Rattle.std.specs.List.Sorted.{IsStrictlySortedBy}
use Rattle.std.specs.Ordering.{nat_cmp}
use Rattle.tg_lists.specs.Promise.Membership.{Contains}
use Rattle.tg_rights.specs.Promise.Letters.{Letters, without}
use Rattle.tg_graph.specs.declared.derivation.Goal.{Goal}
use Rattle.tg_graph.specs.declared.derivation.Step.{Step}
use Rattle.tg_graph.specs.Promise.Derivations.{CanShare, Derives}
use Rattle.tg_graph.specs.Promise.Protection.{Protection, IsVertex, label}
use Rattle.tg_graph.specs.Promise.Rules.{last_serial}
use Rattle.tg_sharing.specs.declared.lookup.Listing.{Listing}
use Rattle.tg_sharing.specs.declared.lookup.Listing.TheVariants as listing

-- the goals that are asked for: each vertex is to have the rights over `to`, and `from` over each
abbrev pub holder_goal : Letters → ℕ → ℕ → Goal
holder_goal α to v = record { from = v; to = to; rights = α }

abbrev pub target_goal : Letters → ℕ → ℕ → Goal
target_goal α from v = record { from = from; to = v; rights = α }

-- which of the goal's rights are there
abbrev pub present : Protection → Goal → Letters
present G goal = without goal.rights (without goal.rights (label G goal.from goal.to))

-- the list has exactly the vertices whose goals can be shared, each with which of the rights are there
abbrev pub AreListed : Protection → (ℕ → Goal) → List (ℕ × Letters) → Type 0
AreListed G goal found = (v : ℕ) (β : Letters) → Contains found (v, β) ↔ (IsVertex G v × CanShare G (goal v) × (β ≡ present G (goal v)))

-- more than so many vertices are there
pub record AreMany (G : Protection) (most : ℕ) : Type 0 where
  pub vertices : List ℕ
  pub rise : IsStrictlySortedBy nat_cmp vertices
  pub there : (v : ℕ) → Contains vertices v → IsVertex G v
  pub many : most < length vertices

-- there are steps after which no serial is left
abbrev pub RunsOut : Protection → Type 0
RunsOut G = (steps : List Step) × (H : Protection) × Derives G steps H × (last_serial < H.next)

-- all are listed; or it takes too much, which means this; or serials run out
abbrev pub IsListing : Protection → (ℕ → Goal) → Type 0 → Listing → Type 0
IsListing G goal TooMuch (listing.All found) = AreListed G goal found.items
IsListing G goal TooMuch listing.TooMuch = TooMuch
IsListing G goal TooMuch listing.Unknown = RunsOut G
