-- what holds between any two steps, and that each session step keeps it
use Rattle.std.specs.Prelude.{◌≡◌, ◌≢◌, ℕ, ◌<◌, ◌≤◌, List, [], ◌++◌, Option, Some, None, ◌⊎◌}
use Rattle.tg_marking.specs.Promise.Values.{White, Grey, Black, Has, Edge, Kind, Contains, Distinct, Roots, Scan, Progress, AtRest, Marking, Sweeping, Body, spot, slot_mark, out, slot_serial, IsRootSlot, IsTarget, Kept, kept_in, Stage, shown}
use Rattle.tg_marking.specs.Promise.Steps.{Reroots, PutsEdge, ShadesTarget, Places, DropsEdge, RewritesEdge}

-- an edge leads to a held slot of its serial, which is not its owner's
abbrev pub LeadsToHeld : (ℕ → Option Kept) → ℕ → Edge → Type 0
LeadsToHeld held i e = (t : Kept) × (held e.target ≡ Some t) × (t.serial ≡ e.serial) × (e.target ≢ i)

-- roots are held, and edges of what is held lead to what is held
pub record Closed (held : ℕ → Option Kept) (Root : ℕ → Type 0) : Type 0 where
  pub roots : (i : ℕ) → Root i → (k : Kept) × (held i ≡ Some k)
  pub edges : (i : ℕ) (k : Kept) (e : Edge) → held i ≡ Some k → Contains k.edges e → LeadsToHeld held i e

abbrev pub IsScanned : Progress → ℕ → Type 0
IsScanned (Marking (Some s)) i = i ≡ s.slot
IsScanned p i = ⊥

-- what waits is grey, each slot once, and what is grey waits or is under scan
pub record Greys (b : Body) (Scanned : ℕ → Type 0) : Type 0 where
  pub waits : (i : ℕ) → Contains b.grey i → slot_mark b i ≡ Has Grey
  pub once : Distinct b.grey
  pub known : (i : ℕ) → slot_mark b i ≡ Has Grey → Contains b.grey i ⊎ Scanned i
  pub scanned : (i : ℕ) → Scanned i → (slot_mark b i ≡ Has Grey) × (Contains b.grey i → ⊥)

-- not white, or some seat's target
abbrev pub Covered : Body → ℕ → Type 0
Covered b i = slot_mark b i ≡ Has White → IsTarget b i

-- the edges before the cursor are covered
pub record ScanHolds (b : Body) (s : Scan) : Type 0 where
  pub passed : List Edge
  pub all : out b s.slot ≡ passed ++ s.rest
  pub behind : (e : Edge) → Contains passed e → Covered b e.target

abbrev pub ScanFits : Body → Option Scan → Type 0
ScanFits b None = Unit {0}
ScanFits b (Some s) = ScanHolds b s

pub record Tricolour (b : Body) (scan : Option Scan) : Type 0 where
  pub roots : (i : ℕ) → IsRootSlot b i → Covered b i
  pub black : (i : ℕ) (e : Edge) → slot_mark b i ≡ Has Black → Contains (out b i) e → Covered b e.target
  pub scanned : ScanFits b scan

abbrev pub Phased : Body → Progress → Type 0
Phased b AtRest = (i : ℕ) → slot_mark b i ≢ Has Black
Phased b (Marking s) = Tricolour b s
Phased b (Sweeping k) = ((i : ℕ) → i < k → slot_mark b i ≢ Has Black) × ((i : ℕ) → k ≤ i → slot_mark b i ≢ Has Grey)

pub record Invariant (b : Body) (p : Progress) : Type 0 where
  pub closed : Closed (kept_in b (shown p)) (IsRootSlot b)
  pub once : (i j x : ℕ) → slot_serial b i ≡ Some x → slot_serial b j ≡ Some x → i ≡ j
  pub greys : Greys b (IsScanned p)
  pub phase : Phased b p

-- what a path of held slots from a root reaches
pub data Reached (held : ℕ → Option Kept) (Root : ℕ → Type 0) : ℕ → Type 0 where
  at_root : (i : ℕ) → Root i → Reached held Root i
  along : (i : ℕ) (k : Kept) (e : Edge) → Reached held Root i → held i ≡ Some k → Contains k.edges e → Reached held Root e.target

abbrev pub IsLive : Body → Stage → ℕ → Type 0
IsLive b g i = Reached (kept_in b g) (IsRootSlot b) i

-- each session step keeps the invariant, a vertex that comes is held, and a store without vertices, roots and grey
-- slots has it
pub record SessionsKeep : Type 0 where
  pub reroots : (b b' : Body) (p : Progress) (rs : Roots) → Reroots b p rs b' → Invariant b p → Invariant b' p
  pub puts_edge : (b b' : Body) (p : Progress) (i : ℕ) (new : Edge) → PutsEdge b p i new b' → Invariant b p → Invariant b' p
  pub shades : (b b' : Body) (p : Progress) (seat i : ℕ) → ShadesTarget b seat i b' → Invariant b p → Invariant b' p
  pub places : (b b' : Body) (p : Progress) (i serial : ℕ) (kind : Kind) (text : List ℕ) → Places b p i serial kind text b' → Invariant b p
      → Invariant b' p × (kept_in b' (shown p) i ≡ Some (record { serial = serial; kind = kind; text = text; edges = [] }))
  pub drops_edge : (b b' : Body) (p p' : Progress) (i : ℕ) (before : List Edge) (e : Edge) (news after : List Edge) → DropsEdge b p i before e news after b' p' → Invariant b p → Invariant b' p'
  pub rewrites : (b b' : Body) (p : Progress) (i : ℕ) (text : List ℕ) → RewritesEdge b i text b' → Invariant b p → Invariant b' p
  pub blank : (b : Body) → ((i : ℕ) → spot b i ≡ None) → b.grey ≡ [] → ((i : ℕ) → IsRootSlot b i → ⊥) → Invariant b AtRest
