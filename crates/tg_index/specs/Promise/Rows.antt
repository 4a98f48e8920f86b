-- what contracts see of the buckets: one row of numbers for each
use Rattle.std.specs.Prelude.{◌≡◌, ℕ, ◌<◌, ◌≤◌, List, [], ◌∷◌, Option, Some, None}
use Rattle.std.proofs.Common.{get_or}
use Rattle.tg_lists.specs.Promise.Membership.{Contains, Distinct}

-- each bucket's numbers from the first, how many numbers were used so far, and how many there are
pub record Rows : Type 0 where
  pub lists : List (List ℕ)
  pub used : ℕ
  pub size : ℕ

-- one bucket's numbers
abbrev pub row : List (List ℕ) → ℕ → List ℕ
row lists b = get_or lists b []

-- the first number
abbrev pub first_of : List ℕ → Option ℕ
first_of [] = None
first_of (n ∷ ns) = Some n

-- the number is in no row
abbrev pub IsUnheld : List (List ℕ) → ℕ → Type 0
IsUnheld lists n = (b : ℕ) → Contains (row lists b) n → ⊥

-- the number is in some row
pub record IsHeld (lists : List (List ℕ)) (n : ℕ) : Type 0 where
  pub bucket : ℕ
  pub held : Contains (row lists bucket) n

-- no number is in a row twice or in two rows, and all were used
pub record AreRows (r : Rows) : Type 0 where
  pub once : (b : ℕ) → Distinct (row r.lists b)
  pub one_row : (a b n : ℕ) → Contains (row r.lists a) n → Contains (row r.lists b) n → a ≡ b
  pub used : (b n : ℕ) → Contains (row r.lists b) n → n < r.used
  pub room : r.used ≤ r.size
