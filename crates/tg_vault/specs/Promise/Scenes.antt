-- what a vault shows
use Rattle.std.specs.Prelude.{◌≡◌, ℕ, zero, suc, List, [], ◌∷◌, ◌++◌, length, Option, Some, None}
use Rattle.tg_collect.specs.Promise.Figures.{Shows}
use Rattle.tg_collect.specs.Promise.Readings.{agent_of, free_slots, pending_of, phase}
use Rattle.tg_vault.specs.declared.scene.Scene.{Scene}
use Rattle.tg_vault.specs.declared.scene.Sitting.{Sitting}
use Rattle.tg_vault.specs.Promise.Contents.{Contents}
use Rattle.tg_vault.specs.Promise.World.{at_seat}

-- a seat that somebody has, with its agent and its pending target
abbrev pub sitting_of : (seat : ℕ) (principal agent target : Option ℕ) → Option Sitting
sitting_of seat None agent target = None
sitting_of seat (Some x) agent target = Some (record { seat = seat; principal = x; agent = agent; target = target })

abbrev pub sitting : Contents → ℕ → Option Sitting
sitting v seat = sitting_of seat (at_seat v.seats seat) (agent_of v.store seat) (pending_of v.store seat)

-- the seats below a number that somebody has
abbrev pub with_sitting : List Sitting → Option Sitting → List Sitting
with_sitting found None = found
with_sitting found (Some s) = found ++ s ∷ []

abbrev pub sittings_below : Contents → ℕ → List Sitting
sittings_below v zero = []
sittings_below v (suc seat) = with_sitting (sittings_below v seat) (sitting v seat)

-- the scene has exactly what the vault's slots show, the names of its principals, its seats that somebody has, and what
-- is free
pub record IsScene (v : Contents) (s : Scene) : Type 0 where
  pub shown : Shows v.store s.vertices.items s.edges.items
  pub names : s.names ≡ v.names
  pub seats : s.seats.items ≡ sittings_below v (length v.seats)
  pub free_slots : s.free_slots ≡ free_slots v.store
  pub free_cells : s.free_cells ≡ v.store.free_cells
  pub phase : s.phase ≡ phase v.store
