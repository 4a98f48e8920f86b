-- what is left of a cycle
use Rattle.std.specs.Prelude.{◌≡◌, ℕ, zero, suc, ◌+◌, ◌-◌, ◌*◌, ◌<◌, ◌≤◌, List, length, map, Option, Some, None, false, if◌then◌else◌}
use Rattle.tg_slots.specs.Promise.Table.{Mark}
use Rattle.tg_marking.specs.Promise.Values.{Grey, Black, Has, Edge, Distinct, Kind, Roots, Spot, Progress, AtRest, Marking, Sweeping, Body, spot, spot_mark, out, keeps, Kept, kept_in, Stage, Sweep, total, free_one, parked_one}
use Rattle.tg_marking.specs.Promise.Steps.{Line, shade, PutsEdge, Places, DropsEdge, RewritesEdge}
use Rattle.tg_marking.specs.Promise.Invariant.{Invariant}

-- the steps that a slot may still take while marking; a scan takes fewer steps than there are slots
abbrev pub weight : ℕ → Mark → ℕ
weight size (Has Black) = 0
weight size (Has Grey) = size + 1
weight size m = size + 2

abbrev pub parked_cells : Stage → ℕ → Option Spot → ℕ
parked_cells g i None = 0
parked_cells g i (Some s) = if keeps g i s.colour then 0 else length s.edges

-- the steps that one slot may still take; the most of a cycle; those of no one slot; and all
abbrev pub slot_left : ℕ → Progress → ℕ → Option Spot → ℕ
slot_left size AtRest i o = 0
slot_left size (Marking s) i o = weight size (spot_mark o)
slot_left size (Sweeping k) i o = parked_cells (Sweep k) i o

abbrev pub bound : (size cells : ℕ) → ℕ
bound size cells = size * size + 3 * size + cells + 3

-- one slot and one cell: at most 8 steps; two slots and three cells: 16
abbrev pub BoundInNumbers : Type 0
BoundInNumbers = (bound 1 1 ≡ 8) × (bound 2 3 ≡ 16)

abbrev pub phase_left : (size cells : ℕ) → Progress → ℕ
phase_left size cells AtRest = bound size cells
phase_left size cells (Marking None) = cells + 2 + size
phase_left size cells (Marking (Some s)) = cells + 2 + length s.rest
phase_left size cells (Sweeping k) = size - k + 1

abbrev pub left : ℕ → Body → Progress → ℕ
left cells b p = phase_left (length b.slots) cells p + total (λ i. slot_left (length b.slots) p i (spot b i)) (length b.slots)

-- what a heap says of its cells: no serial twice in a list, and no more cells than there are
pub record Celled (b : Body) (cells : ℕ) : Type 0 where
  pub once : (i : ℕ) → Distinct (map (λ e. e.serial) (out b i))
  pub few : total (λ i. length (out b i)) (length b.slots) ≤ cells

-- each line lowers what is left, unless it ends the cycle, from the bound at most to one at least
pub record LinesAreBounded : Type 0 where
  pub lower : (b b' : Body) (p p' : Progress) (n cells : ℕ) → Line b p b' p' n false → Invariant b p → Celled b cells → left cells b' p' < left cells b p
  pub most : (b : Body) (p : Progress) (cells : ℕ) → Invariant b p → Celled b cells → left cells b p ≤ bound (length b.slots) cells
  pub some : (b : Body) (p : Progress) (cells : ℕ) → 1 ≤ left cells b p

abbrev pub held_one : Option Kept → ℕ
held_one None = 0
held_one (Some k) = 1

abbrev pub held_cells : Option Kept → ℕ
held_cells None = 0
held_cells (Some k) = length k.edges

-- free slots, held and parked ones are all slots; the cells of what is held and of what is parked are all the cells in
-- use
pub record AreSlotsCounted : Type 0 where
  pub slots : (b : Body) (g : Stage) → total (λ i. free_one (spot b i)) (length b.slots) + total (λ i. held_one (kept_in b g i)) (length b.slots) + total (λ i. parked_one g i (spot b i)) (length b.slots) ≡ length b.slots
  pub cells : (b : Body) (g : Stage) → total (λ i. held_cells (kept_in b g i)) (length b.slots) + total (λ i. parked_cells g i (spot b i)) (length b.slots) ≡ total (λ i. length (out b i)) (length b.slots)

-- no session step raises what is left; roots and texts are no part of it
pub record NeverRaises : Type 0 where
  pub roots : (b : Body) (p : Progress) (cells : ℕ) (rs : Roots) → left cells (record b { roots = rs }) p ≡ left cells b p
  pub shades : (b : Body) (p : Progress) (i cells : ℕ) → left cells (shade b i) p ≤ left cells b p
  pub puts_edge : (b b' : Body) (p : Progress) (i cells : ℕ) (new : Edge) → PutsEdge b p i new b' → left cells b' p ≤ left cells b p
  pub places : (b b' : Body) (p : Progress) (i serial cells : ℕ) (kind : Kind) (text : List ℕ) → Places b p i serial kind text b' → left cells b' p ≤ left cells b p
  pub drops_edge : (b b' : Body) (p p' : Progress) (i : ℕ) (before : List Edge) (e : Edge) (news after : List Edge) (cells : ℕ) → DropsEdge b p i before e news after b' p' → length news ≤ 1 → left cells b' p' ≤ left cells b p
  pub rewrites : (b b' : Body) (p : Progress) (i cells : ℕ) (text : List ℕ) → RewritesEdge b i text b' → left cells b' p ≡ left cells b p
