-- runs of session steps and collector steps, by what callers see
use Rattle.std.specs.Prelude.{◌≡◌, ◌≢◌, ℕ, suc, ◌<◌, ◌≤◌, List, map, Option, Some, None, ◌⊎◌, true, false}
use Rattle.tg_marking.specs.Promise.Values.{White, Grey, Black, Has, Edge, Contains, Kind, Roots, HasRoot, Spot, Progress, AtRest, Stage, shown, Idle, Body, spot, slot_mark, slot_serial, IsRootSlot, keeps, Kept, kept_in}
use Rattle.tg_marking.specs.Promise.Steps.{new_colour, Reroots, PutsEdge, ShadesTarget, Places, DropsEdge, RewritesEdge}
use Rattle.tg_marking.specs.Promise.Invariant.{Closed, Invariant, IsLive}
use Rattle.tg_marking.specs.Promise.Collected.{BodyCollected}

-- a serial is held in a live slot
abbrev pub IsLiveIn : Body → Stage → ℕ → Type 0
IsLiveIn b g x = (i : ℕ) × (k : Kept) × IsLive b g i × (kept_in b g i ≡ Some k) × (k.serial ≡ x)

-- a serial is live, or new: not below `next`
abbrev pub IsLiveOrNew : Body → Stage → ℕ → ℕ → Type 0
IsLiveOrNew b g next x = IsLiveIn b g x ⊎ (next ≤ x)

-- the serial of a spot had a slot, in the same colour unless the spot is white, and was held if the spot is
abbrev pub HadSlot : Body → Stage → ℕ → Spot → Type 0
HadSlot b g i s = (j : ℕ) × (t : Spot) × (spot b j ≡ Some t) × (t.serial ≡ s.serial) × ((s.colour ≡ White) ⊎ (s.colour ≡ t.colour)) × (keeps g i s.colour ≡ true → keeps g j t.colour ≡ true)

-- what is held under the serial x had an edge to the serial y
abbrev pub HadEdge : Body → Stage → ℕ → ℕ → Type 0
HadEdge b g x y = (j : ℕ) × (k : Kept) × (e : Edge) × (kept_in b g j ≡ Some k) × (k.serial ≡ x) × Contains k.edges e × (e.serial ≡ y)

-- a session step (of the mutator, in the words of Dijkstra and others), by serials: what has a slot had one, or is live
-- or new; roots are live or new; and edges of what is held were there, or lead to what is live or new
pub record Mutated (b : Body) (g : Stage) (b' : Body) (next : ℕ) : Type 0 where
  pub spots : (i : ℕ) (s : Spot) → spot b' i ≡ Some s → HadSlot b g i s ⊎ IsLiveOrNew b g next s.serial
  pub roots : (i : ℕ) (k : Kept) → IsRootSlot b' i → kept_in b' g i ≡ Some k → IsLiveOrNew b g next k.serial
  pub edges : (i : ℕ) (k : Kept) (e : Edge) → kept_in b' g i ≡ Some k → Contains k.edges e → HadEdge b g k.serial e.serial ⊎ IsLiveOrNew b g next e.serial

-- one of these edges leads to the same serial
abbrev pub LedTo : List Edge → Edge → Type 0
LedTo es e = Contains (map (λ (d : Edge). d.serial) es) e.serial

-- what a session step does to one slot, where serials may come that are New, and edges that lead To some: nothing; a
-- white root turns grey; edges go or come, and the text may be another; or a vertex comes, in the colour of a new one.
-- A vertex keeps its slot.
pub data Changed (g : Stage) (Root New To : ℕ → Type 0) (i : ℕ) : Option Spot → Option Spot → Type 0 where
  same : (o : Option Spot) → Changed g Root New To i o o
  shaded : (s : Spot) → s.colour ≡ White → Root i → Changed g Root New To i (Some s) (Some (record s { colour = Grey }))
  regards : (s : Spot) (es : List Edge) (text : List ℕ) → ((e : Edge) → Contains es e → LedTo s.edges e ⊎ To e.serial) → Changed g Root New To i (Some s) (Some (record s { edges = es; text = text }))
  comes : (s : Spot) → New s.serial → s.colour ≡ new_colour g i → ((e : Edge) → Contains s.edges e → To e.serial) → Changed g Root New To i None (Some s)

-- each exact session step from a state with the invariant is one of a run, if the roots that come are live or new, a
-- vertex that comes is new, and an edge put at rest leads to what is live or new
pub record StepsMutate : Type 0 where
  pub reroots : (b b' : Body) (p : Progress) (rs : Roots) (next : ℕ) → Reroots b p rs b' → Invariant b p
      → ((i : ℕ) (k : Kept) → HasRoot rs i → kept_in b (shown p) i ≡ Some k → IsRootSlot b i ⊎ IsLiveOrNew b (shown p) next k.serial) → Mutated b (shown p) b' next
  pub puts_edge : (b b' : Body) (p : Progress) (i next : ℕ) (new : Edge) → PutsEdge b p i new b' → Invariant b p → (p ≡ AtRest → IsLiveOrNew b (shown p) next new.serial) → Mutated b (shown p) b' next
  pub shades : (b b' : Body) (p : Progress) (seat i next : ℕ) → ShadesTarget b seat i b' → Invariant b p → Mutated b (shown p) b' next
  pub places : (b b' : Body) (p : Progress) (i serial next : ℕ) (kind : Kind) (text : List ℕ) → Places b p i serial kind text b' → Invariant b p → next ≤ serial → Mutated b (shown p) b' next
  pub drops_edge : (b b' : Body) (p p' : Progress) (i : ℕ) (before : List Edge) (e : Edge) (news after : List Edge) (next : ℕ) → DropsEdge b p i before e news after b' p' → Invariant b p → Mutated b (shown p) b' next
  pub rewrites : (b b' : Body) (p : Progress) (i next : ℕ) (text : List ℕ) → RewritesEdge b i text b' → Invariant b p → Mutated b (shown p) b' next

-- what a run asks of each value
pub record Sane (b : Body) (g : Stage) : Type 0 where
  pub closed : Closed (kept_in b g) (IsRootSlot b)
  pub once : (i j x : ℕ) → slot_serial b i ≡ Some x → slot_serial b j ≡ Some x → i ≡ j
  pub idle : g ≡ Idle → (i : ℕ) → slot_mark b i ≢ Has Black

-- a run after a value, with session steps of a kind: its last value, and the cycles that have ended
pub data BodyRunOf (Session : Body → Stage → Body → Type 0) (b : Body) (g : Stage) : Body → Stage → ℕ → Type 0 where
  begin : BodyRunOf Session b g b g 0
  acts : (c d : Body) (h : Stage) (n : ℕ) → BodyRunOf Session b g c h n → Session c h d → Sane d h → BodyRunOf Session b g d h n
  goes : (c d : Body) (h k : Stage) (n : ℕ) → BodyRunOf Session b g c h n → BodyCollected c h d k false → Sane d k → BodyRunOf Session b g d k n
  ends : (c d : Body) (h k : Stage) (n : ℕ) → BodyRunOf Session b g c h n → BodyCollected c h d k true → Sane d k → BodyRunOf Session b g d k (suc n)

abbrev pub BodyRun : ℕ → Body → Stage → Body → Stage → ℕ → Type 0
BodyRun next b g c h n = BodyRunOf (λ c h d. Mutated c h d next) b g c h n

-- without session steps
abbrev pub Cycles : Body → Stage → Body → Stage → ℕ → Type 0
Cycles b g c h n = BodyRunOf (λ c h d. ⊥) b g c h n

-- what is not live in an idle store has no slot once two cycles have ended, however sessions act
abbrev pub CyclesAreComplete : Type 0
CyclesAreComplete = (b c : Body) (h : Stage) (next n : ℕ) → Sane b Idle → ((i : ℕ) (k : Kept) → kept_in b Idle i ≡ Some k → k.serial < next) → BodyRun next b Idle c h n → 2 ≤ n
    → (i : ℕ) (s : Spot) → spot c i ≡ Some s → IsLiveOrNew b Idle next s.serial

-- three cycles without sessions leave only what is live
abbrev pub Settles : Type 0
Settles = (b c : Body) (g h : Stage) → Sane b g → Cycles b g c h 3 → (i : ℕ) (s : Spot) → spot c i ≡ Some s → IsLive c h i
