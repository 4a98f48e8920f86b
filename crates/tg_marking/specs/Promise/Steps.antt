-- the steps, each an exact change of the value
use Rattle.std.specs.Prelude.{◌≡◌, ◌≢◌, ℕ, ◌+◌, ◌<◌, ◌≤◌, List, [], ◌∷◌, ◌++◌, length, Option, Some, None, ◌⊎◌, Bool, true, false, if◌then◌else◌, slice_index_or, slice_set, nat_lt}
use Rattle.tg_marking.specs.Promise.Values.{Colour, White, Grey, Black, Has, Edge, Contains, Kind, Spot, Scan, Progress, AtRest, Marking, Sweeping, Body, Roots, HasRoot, HasTarget, spot, slot_mark, out, slot_serial, IsRootSlot, IsTarget, Kept, kept_in, Stage, shown, Sweep}

abbrev pub put : Body → ℕ → Option Spot → Body
put b i o = record b { slots = slice_set b.slots i o }

-- a white slot turns grey and waits; others stay
abbrev pub shade_spot : Body → ℕ → Spot → Colour → Body
shade_spot b i s White = record b { slots = slice_set b.slots i (Some (record s { colour = Grey })); grey = i ∷ b.grey }
shade_spot b i s c = b

abbrev pub shade_in : Body → ℕ → Option Spot → Body
shade_in b i None = b
shade_in b i (Some s) = shade_spot b i s s.colour

abbrev pub shade : Body → ℕ → Body
shade b i = shade_in b i (spot b i)

-- roots are shaded, from the last to the first
abbrev pub shade_all : Body → List (Option ℕ) → Body
shade_all b [] = b
shade_all b (None ∷ rs) = shade_all b rs
shade_all b (Some i ∷ rs) = shade (shade_all b rs) i

-- one line of the collector's table: the value before and after, slots freed, whether the cycle ended
pub data Line (b : Body) : Progress → Body → Progress → ℕ → Bool → Type 0 where
  starts : Line b AtRest (shade_all b b.roots.others) (Marking None) 0 false
  scans : (i : ℕ) (e : Edge) (r : List Edge) → Line b (Marking (Some (record { slot = i; rest = e ∷ r }))) (shade b e.target) (Marking (Some (record { slot = i; rest = r }))) 0 false
  blackens : (i : ℕ) (s : Spot) → spot b i ≡ Some s → Line b (Marking (Some (record { slot = i; rest = [] }))) (put b i (Some (record s { colour = Black }))) (Marking None) 0 false
  takes : (i : ℕ) (rest : List ℕ) → b.grey ≡ i ∷ rest → Line b (Marking None) (record b { grey = rest }) (Marking (Some (record { slot = i; rest = out b i }))) 0 false
  -- the least seat with a white target
  shades_target : (k i : ℕ) → b.grey ≡ [] → slice_index_or b.roots.targets k None ≡ Some i → slot_mark b i ≡ Has White
      → ((l j : ℕ) → l < k → slice_index_or b.roots.targets l None ≡ Some j → slot_mark b j ≢ Has White) → Line b (Marking None) (shade b i) (Marking None) 0 false
  starts_sweep : b.grey ≡ [] → ((i : ℕ) → IsTarget b i → slot_mark b i ≡ Has White → ⊥) → Line b (Marking None) b (Sweeping 0) 0 false
  skips : (k : ℕ) → k < length b.slots → spot b k ≡ None → Line b (Sweeping k) b (Sweeping (k + 1)) 0 false
  whitens : (k : ℕ) (s : Spot) → spot b k ≡ Some s → s.colour ≡ Black → Line b (Sweeping k) (put b k (Some (record s { colour = White }))) (Sweeping (k + 1)) 0 false
  strips : (k : ℕ) (s : Spot) (e : Edge) (r : List Edge) → spot b k ≡ Some s → s.colour ≡ White → s.edges ≡ e ∷ r → Line b (Sweeping k) (put b k (Some (record s { edges = r }))) (Sweeping k) 0 false
  frees : (k : ℕ) (s : Spot) → spot b k ≡ Some s → s.colour ≡ White → s.edges ≡ [] → Line b (Sweeping k) (put b k None) (Sweeping (k + 1)) 1 false
  finishes : (k : ℕ) → length b.slots ≤ k → Line b (Sweeping k) b AtRest 0 true

-- the colour of a vertex that comes into a slot
abbrev pub new_colour : Stage → ℕ → Colour
new_colour (Sweep k) i = if nat_lt i k then White else Black
new_colour g i = White

-- the roots with another target for a seat
abbrev pub with_seat_target : Roots → ℕ → Option ℕ → Roots
with_seat_target r seat t = record r { targets = slice_set r.targets seat t }

-- the session steps. Roots come and go: what comes is a root already, or held, and then a seat's target unless the
-- collector rests; and a target that is white stays one
pub record Reroots (b : Body) (p : Progress) (roots : Roots) (b' : Body) : Type 0 where
  pub comes : (i : ℕ) → HasRoot roots i → IsRootSlot b i ⊎ ((HasTarget roots i ⊎ (p ≡ AtRest)) × (k : Kept) × (kept_in b (shown p) i ≡ Some k))
  pub stays : (i : ℕ) → slot_mark b i ≡ Has White → IsTarget b i → HasTarget roots i
  pub is : b' ≡ record b { roots = roots }

-- an edge of a held slot is put in front: to a seat's target, or to any held slot if the collector rests
pub record PutsEdge (b : Body) (p : Progress) (i : ℕ) (edge : Edge) (b' : Body) : Type 0 where
  pub owner : Spot
  pub at : spot b i ≡ Some owner
  pub held : (k : Kept) × (kept_in b (shown p) i ≡ Some k)
  pub there : (k : Kept) × (kept_in b (shown p) edge.target ≡ Some k) × (k.serial ≡ edge.serial)
  pub apart : edge.target ≢ i
  pub target : IsTarget b edge.target ⊎ (p ≡ AtRest)
  pub is : b' ≡ record b { slots = slice_set b.slots i (Some (record owner { edges = edge ∷ owner.edges })) }

-- the seat's target is shaded and cleared
pub record ShadesTarget (b : Body) (seat i : ℕ) (b' : Body) : Type 0 where
  pub was : slice_index_or b.roots.targets seat None ≡ Some i
  pub is : b' ≡ record (shade b i) { roots = with_seat_target b.roots seat None }

-- a vertex without edges comes into a free slot
pub record Places (b : Body) (p : Progress) (i serial : ℕ) (kind : Kind) (text : List ℕ) (b' : Body) : Type 0 where
  pub free : spot b i ≡ None
  pub inside : i < length b.slots
  pub new : (j : ℕ) → slot_serial b j ≢ Some serial
  pub is : b' ≡ put b i (Some (record { serial = serial; kind = kind; text = text; edges = []; colour = new_colour (shown p) i }))

-- a text is replaced
pub record RewritesEdge (b : Body) (i : ℕ) (text : List ℕ) (b' : Body) : Type 0 where
  pub owner : Spot
  pub at : spot b i ≡ Some owner
  pub is : b' ≡ put b i (Some (record owner { text = text }))

-- an edge gives way to others to the same vertex (to none if it leaves its list, to one if its label changes); the scan
-- goes on with the edges from its cursor on
pub data Trims (i : ℕ) (before : List Edge) (e : Edge) (news after : List Edge) : Progress → Progress → Type 0 where
  elsewhere : (p : Progress) → ((s : Scan) → p ≡ Marking (Some s) → i ≢ s.slot) → Trims i before e news after p p
  passed : (rest mid : List Edge) → after ≡ mid ++ rest → Trims i before e news after (Marking (Some (record { slot = i; rest = rest }))) (Marking (Some (record { slot = i; rest = rest })))
  ahead : (mid done : List Edge) → before ≡ done ++ mid → Trims i before e news after (Marking (Some (record { slot = i; rest = mid ++ e ∷ after }))) (Marking (Some (record { slot = i; rest = mid ++ (news ++ after) })))

pub record DropsEdge (b : Body) (p : Progress) (i : ℕ) (before : List Edge) (e : Edge) (news after : List Edge) (b' : Body) (p' : Progress) : Type 0 where
  pub owner : Spot
  pub at : spot b i ≡ Some owner
  pub edges : owner.edges ≡ before ++ e ∷ after
  pub alike : (x : Edge) → Contains news x → (x.target ≡ e.target) × (x.serial ≡ e.serial)
  pub stage : Trims i before e news after p p'
  pub is : b' ≡ put b i (Some (record owner { edges = before ++ (news ++ after) }))
