-- what contracts see of two arrays that are one list of pairs
use Rattle.std.specs.Prelude.{◌≡◌, ℕ, zero, suc, List, [], ◌∷◌, Some}
use Rattle.std.specs.List.{slice_get}

-- the pairs, in order, and for how many there is room
pub record Pairs (L R : Type 0) : Type 0 where
  pub items : List (L × R)
  pub room : ℕ

module _ {L R : Type 0} where
  -- the pair of an index has this half, beside another
  pub record HasLeft (ps : List (L × R)) (i : ℕ) (a : L) : Type 0 where
    pub other : R
    pub here : slice_get ps i ≡ Some (a, other)

  pub record HasRight (ps : List (L × R)) (i : ℕ) (b : R) : Type 0 where
    pub other : L
    pub here : slice_get ps i ≡ Some (other, b)

  -- the pairs once the one of an index, if there is one, has another half
  abbrev pub with_left : List (L × R) → ℕ → L → List (L × R)
  with_left [] i a = []
  with_left (p ∷ ps) zero a = (a, p.1) ∷ ps
  with_left (p ∷ ps) (suc i) a = p ∷ with_left ps i a

  abbrev pub with_right : List (L × R) → ℕ → R → List (L × R)
  with_right [] i b = []
  with_right (p ∷ ps) zero b = (p.0, b) ∷ ps
  with_right (p ∷ ps) (suc i) b = p ∷ with_right ps i b
