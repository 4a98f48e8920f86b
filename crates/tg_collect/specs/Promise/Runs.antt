-- runs of a store: session steps and collector steps in any order
use Rattle.std.specs.Prelude.{◌≡◌, ℕ, ◌+◌, ◌<◌, ◌≤◌, Option, Some, ◌⊎◌, true, false}
use Rattle.tg_graph.specs.Promise.Protection.{Live}
use Rattle.tg_collect.specs.declared.note.Phase.TheVariants.{Idle}
use Rattle.tg_collect.specs.Promise.Stored.{Stored}
use Rattle.tg_marking.specs.Promise.Runs as marking
use Rattle.tg_collect.specs.Promise.Readings.{phase, shown_body, slot_count, held, cycle_bound, IsHeldIn, IsParkedIn, IsRootIn}
use Rattle.tg_collect.specs.Promise.Views.{IsStore, Collected}
use Rattle.tg_collect.specs.Promise.Sessions.{Acted}

-- a session step of a run: what comes by it is live or new
pub record Acts (v w : Stored) (next : ℕ) : Type 0 where
  pub step : marking.Mutated (shown_body v) v.stage (shown_body w) next
  pub stage : w.stage ≡ v.stage
  pub slots : slot_count w ≡ slot_count v
  pub cells : w.cells ≡ v.cells
  pub left : w.left ≤ v.left

-- what each session call does is such a step, if its new serial is not below `next` and its target is live or new
abbrev pub CallsAct : Type 0
CallsAct = (v w : Stored) (new target : Option ℕ) (next : ℕ) → IsStore v → IsStore w → Acted v w new target → ((x : ℕ) → new ≡ Some x → next ≤ x)
    → ((x : ℕ) → target ≡ Some x → Live (held v next) (IsRootIn v) x ⊎ (next ≤ x)) → Acts v w next

-- a run of a store after a state: its last state, the cycles that ended and the collector steps since the last end. New
-- serials are not below `next`.
pub data StoreRun (next : ℕ) (first : Stored) : Stored → ℕ → ℕ → Type 0 where
  start : StoreRun next first first 0 0
  acts : (v w : Stored) (ended since : ℕ) → StoreRun next first v ended since → Acts v w next → IsStore w → StoreRun next first w ended since
  goes : (v w : Stored) (ended since count : ℕ) → StoreRun next first v ended since → Collected v w count false → IsStore w → StoreRun next first w ended (since + 1)
  ends : (v w : Stored) (ended since count : ℕ) → StoreRun next first v ended since → Collected v w count true → IsStore w → StoreRun next first w (ended + 1) 0

-- what was not live when a cycle starts has no slot when the next cycle has ended
abbrev pub StoresAreComplete : Type 0
StoresAreComplete = (v w u : Stored) (next ended since count : ℕ) → IsStore v → phase v ≡ Idle → Collected v w count false → IsStore w → ((x : ℕ) → IsHeldIn v x → x < next)
    → StoreRun next w u ended since → 2 ≤ ended → (x : ℕ) → IsHeldIn u x ⊎ IsParkedIn u x → Live (held v next) (IsRootIn v) x ⊎ (next ≤ x)

-- there are fewer collector steps than the bound between two ends of cycles
abbrev pub StoresAreBounded : Type 0
StoresAreBounded = (v u : Stored) (next ended since : ℕ) → IsStore v → StoreRun next v u ended since → since < cycle_bound (slot_count v) v.cells

-- collector steps that end no cycle: the last state, the slots that they freed, and how many steps there were
pub data Collecting (first : Stored) : Stored → (freed steps : ℕ) → Type 0 where
  begins : Collecting first first 0 0
  steps : (v w : Stored) (freed steps count : ℕ) → Collecting first v freed steps → Collected v w count false → IsStore w → Collecting first w (freed + count) (steps + 1)

-- collector steps up to and including the first that ends a cycle, and what they freed
pub record Cycled (v w : Stored) (freed steps : ℕ) : Type 0 where
  pub last : Stored
  pub before : ℕ
  pub collecting : Collecting v last freed before
  pub ends : Collected last w 0 true
  pub count : steps ≡ before + 1
