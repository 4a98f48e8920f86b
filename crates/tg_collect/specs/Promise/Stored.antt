-- the value of a store: what slots hold, and the roots, with the slots that they are in
use Rattle.std.specs.Prelude.{ℕ, List, [], ◌∷◌, ◌++◌, map, Option, Some, None, ◌⊎◌, slice_set, not, ◌==◌}
use Rattle.std.specs.List.{filter}
use Rattle.tg_marking.specs.Promise.Values as values
use Rattle.tg_marking.specs.Promise.Values.{Contains, Spot, Stage}
use Rattle.tg_collect.specs.declared.machine.Root.{Root}
pub use Rattle.tg_cells.specs.declared.key.Key.{Key}
pub use Rattle.tg_cells.specs.declared.key.TheConstants.Key.{FIXED}

-- the roots: each seat's target, the principals, and each seat's agent
pub record RootLists : Type 0 where
  pub targets : List (Option Root)
  pub principals : List Root
  pub agents : List (Option Root)

-- the roots once a seat has another target
abbrev pub with_target : RootLists → ℕ → Option Root → RootLists
with_target rs seat t = record rs { targets = slice_set rs.targets seat t }

-- the roots with another principal, and without that of a serial
abbrev pub with_principal : RootLists → Root → RootLists
with_principal rs r = record rs { principals = rs.principals ++ r ∷ [] }

abbrev pub without_principal : RootLists → ℕ → RootLists
without_principal rs x = record rs { principals = filter (λ (r : Root). not (r.serial == x)) rs.principals }

-- the roots once a seat has another agent, and once it assumes one, who is its target too
abbrev pub with_agent : RootLists → ℕ → Option Root → RootLists
with_agent rs seat a = record rs { agents = slice_set rs.agents seat a }

abbrev pub assuming : RootLists → ℕ → Root → RootLists
assuming rs seat r = with_agent (with_target rs seat (Some r)) seat (Some r)

-- a root is in one of the lists
abbrev pub IsListed : RootLists → Root → Type 0
IsListed rs r = Contains rs.targets (Some r) ⊎ (Contains rs.principals r ⊎ Contains rs.agents (Some r))

-- the slots of the roots
abbrev pub slot_of : Option Root → Option ℕ
slot_of None = None
slot_of (Some r) = Some r.slot

abbrev pub slots_of : List (Option Root) → List (Option ℕ)
slots_of os = map (λ o. slot_of o) os

abbrev pub all_slots : List Root → List (Option ℕ)
all_slots rs = map (λ (r : Root). Some r.slot) rs

abbrev pub bare : RootLists → values.Roots
bare rs = record { targets = slots_of rs.targets; others = all_slots rs.principals ++ slots_of rs.agents }

-- what each slot holds; the phase, and in the sweep the slot that it is before; the roots; free cells and all cells;
-- what is left of a cycle; and the key by which edges are found
pub record Stored : Type 0 where
  pub slots : List (Option Spot)
  pub stage : Stage
  pub roots : RootLists
  pub free_cells : ℕ
  pub cells : ℕ
  pub left : ℕ
  pub key : Key
