-- what callers see of a collector step
use Rattle.std.specs.Prelude.{◌≡◌, ◌≢◌, ℕ, ◌+◌, ◌≤◌, List, [], ◌∷◌, length, Option, Some, None, ◌⊎◌, Bool, true, false}
use Rattle.tg_marking.specs.Promise.Values.{White, Grey, Black, Has, Edge, Contains, Spot, Progress, Stage, Idle, Mark, Sweep, shown, Body, spot, slot_mark, IsRootSlot, Kept, kept_in, Parked}
use Rattle.tg_marking.specs.Promise.Steps.{Line}
use Rattle.tg_marking.specs.Promise.Invariant.{IsLive, Invariant}

-- why a collector step makes a slot grey: a root, or an edge from a grey slot leads to it
abbrev pub IsCalled : Body → ℕ → Type 0
IsCalled b i = IsRootSlot b i ⊎ ((j : ℕ) × (s : Spot) × (e : Edge) × (spot b j ≡ Some s) × (s.colour ≡ Grey) × Contains s.edges e × (e.target ≡ i))

-- what a collector step does to one slot, in a phase; what is called may turn grey
pub data SlotTurns (Called : ℕ → Type 0) (g : Stage) (i : ℕ) : Option Spot → Option Spot → Type 0 where
  stays : (o : Option Spot) → SlotTurns Called g i o o
  greys : (s : Spot) → s.colour ≡ White → ((k : ℕ) → g ≢ Sweep k) → Called i → SlotTurns Called g i (Some s) (Some (record s { colour = Grey }))
  blackens : (s : Spot) → s.colour ≡ Grey → g ≡ Mark → SlotTurns Called g i (Some s) (Some (record s { colour = Black }))
  whitens : (s : Spot) → s.colour ≡ Black → g ≡ Sweep i → SlotTurns Called g i (Some s) (Some (record s { colour = White }))
  strips : (s : Spot) (e : Edge) (r : List Edge) → s.colour ≡ White → g ≡ Sweep i → s.edges ≡ e ∷ r → SlotTurns Called g i (Some s) (Some (record s { edges = r }))
  frees : (s : Spot) → s.colour ≡ White → g ≡ Sweep i → s.edges ≡ [] → SlotTurns Called g i (Some s) None

-- the phases, with this many slots, and whether the cycle ended
pub data Follows (size : ℕ) : Stage → Stage → Bool → Type 0 where
  begins : Follows size Idle Mark false
  marks : Follows size Mark Mark false
  parks : Follows size Mark (Sweep 0) false
  sweeps : (k : ℕ) → Follows size (Sweep k) (Sweep k) false
  passes : (k : ℕ) → Follows size (Sweep k) (Sweep (k + 1)) false
  ends : (k : ℕ) → size ≤ k → Follows size (Sweep k) Idle true

-- only the step into the sweep changes what is held
abbrev pub Stays : Stage → Stage → Type 0
Stays Mark (Sweep k) = ⊥
Stays _ _ = Unit {0}

-- that step: what is black stays, what is not is parked, and was not live
pub record Parks (b b' : Body) (g g' : Stage) : Type 0 where
  pub same : (i : ℕ) → spot b' i ≡ spot b i
  pub stays : (i : ℕ) (k : Kept) → kept_in b' g' i ≡ Some k → (kept_in b g i ≡ Some k) × (slot_mark b i ≡ Has Black)
  pub no_grey : (i : ℕ) → slot_mark b i ≢ Has Grey
  pub black : (i : ℕ) → slot_mark b i ≡ Has Black → kept_in b' g' i ≡ kept_in b g i
  pub parked : (i : ℕ) → Parked b' g' i → (slot_mark b i ≢ Has Black) × (kept_in b' g' i ≡ None)
  pub all : (i : ℕ) (k : Kept) → kept_in b g i ≡ Some k → slot_mark b i ≢ Has Black → Parked b' g' i
  pub unreached : (i : ℕ) → IsLive b g i → slot_mark b i ≡ Has Black

-- a step, by slots, roots and phases
pub record BodyCollected (b : Body) (g : Stage) (b' : Body) (g' : Stage) (ended : Bool) : Type 0 where
  pub phases : Follows (length b.slots) g g' ended
  pub roots : b'.roots ≡ b.roots
  pub size : length b'.slots ≡ length b.slots
  pub turns : (i : ℕ) → SlotTurns (IsCalled b) g i (spot b i) (spot b' i)
  pub held : Stays g g' → (i : ℕ) → kept_in b' g' i ≡ kept_in b g i
  pub parks : g ≡ Mark → g' ≡ Sweep 0 → Parks b b' g g'

-- nobody sees in which order the grey ones wait
abbrev pub without_grey : Body → Body
without_grey b = record b { grey = [] }

-- each line of the step table keeps the invariant, and is a collector step
abbrev pub LinesKeep : Type 0
LinesKeep = (b b' : Body) (p p' : Progress) (n : ℕ) (e : Bool) → Line b p b' p' n e → Invariant b p → Invariant b' p' × BodyCollected (without_grey b) (shown p) (without_grey b') (shown p') e
