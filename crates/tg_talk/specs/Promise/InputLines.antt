-- the lines of a text
use Rattle.std.specs.Prelude.{◌≡◌, ℕ, ◌+◌, ◌<◌, List, [], ◌∷◌, ◌++◌, length, take, drop, Bool, false, ◌==◌, if◌then◌else◌}
use Rattle.std.specs.List.{list_any, onto_first}

-- a line feed
abbrev pub is_newline : ℕ → Bool
is_newline x = x == 10

abbrev pub has_newline : List ℕ → Bool
has_newline xs = list_any is_newline xs

-- the lines of a text, each the bytes before a line feed; the last needs none, and a text that ends in one has no line
-- after it
unfoldable pub lines_of : List ℕ → List (List ℕ)
lines_of [] = []
lines_of (b ∷ bs) = if is_newline b then [] ∷ lines_of bs else onto_first b (lines_of bs)

-- the first line feed of xs is at n
pub record IsFirstNewline (xs : List ℕ) (n : ℕ) : Type 0 where
  pub within : n < length xs
  pub none : has_newline (take n xs) ≡ false
  pub split : xs ≡ take n xs ++ 10 ∷ drop (n + 1) xs
