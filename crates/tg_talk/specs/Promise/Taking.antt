-- lines taken one after another
use Rattle.std.specs.Prelude.{◌≡◌, ℕ, ◌<◌, List, [], ◌∷◌, length, Option, Some}
use Rattle.tg_talk.specs.Promise.InputLines.{lines_of}
use Rattle.tg_talk.specs.declared.input_lines.Next.{Next}
use Rattle.tg_talk.specs.declared.input_lines.Next.TheVariants as next

-- how many lines were taken, the last of them, and the bytes that were read and not taken
pub record Input : Type 0 where
  pub taken : ℕ
  pub line : List ℕ
  pub left : List ℕ

-- the first line of xs, and others
pub record HasLine (xs line : List ℕ) : Type 0 where
  pub others : List (List ℕ)
  pub split : lines_of xs ≡ line ∷ others

-- the line was taken from the bytes xs, and these are left
pub record TakesLine (line xs : List ℕ) (left : Option (List ℕ)) : Type 0 where
  pub rest : List ℕ
  pub unread : left ≡ Some rest
  pub taken : lines_of xs ≡ line ∷ lines_of rest

-- what is next if n lines were taken and the bytes xs are to come, and what is left then; a line after the millionth is
-- one too many, whatever its length
abbrev pub Takes : Next → ℕ → List ℕ → Option (List ℕ) → List ℕ → Type 0
Takes next.Line n line left xs = (n < 1000000) × TakesLine line xs left
Takes next.End n line left xs = xs ≡ []
Takes next.TooLong n line left xs = (n < 1000000) × ((l : List ℕ) × HasLine xs l × (16384 < length l))
Takes next.TooMany n line left xs = (n ≡ 1000000) × ((l : List ℕ) × HasLine xs l)
Takes next.Failed n line left xs = Unit {0}

-- how many more lines are taken
abbrev pub count_of : Next → ℕ
count_of next.Line = 1
count_of next.End = 0
count_of next.TooLong = 1
count_of next.TooMany = 1
count_of next.Failed = 0
