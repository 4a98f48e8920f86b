-- where bytes that pass a test end, and what bytes behind a quote or a backslash say
use Rattle.std.specs.Prelude.{◌≡◌, ◌<◌, ◌≤◌, ◌+◌, ◌*◌, ℕ, Bool, List, Some, length, take, drop, get_or}
use Rattle.std.specs.Char.{IsScalar, digit_value, is_ascii_digit}
use Rattle.std.specs.List.{prefix_len}
use Rattle.json.specs.Text.{content, plain}
use Rattle.json.specs.Lex.{between, in_string, lex}

-- the end is the first place from this one on at which there is no such byte
pub record EndsRun (test : ℕ → Bool) (bytes : List ℕ) (from end : ℕ) : Type 0 where
  pub value : end ≡ from + prefix_len test (drop from bytes)
  pub bound : end ≤ length bytes

-- the digits in front of a text
abbrev pub front : List ℕ → List ℕ
front xs = take (prefix_len is_ascii_digit xs) xs

-- behind an opening quote at this place is this text, and the quote that closes it is before the end
pub record Decodes (line : List ℕ) (from : ℕ) (text : List ℕ) (end : ℕ) : Type 0 where
  pub content : content plain (drop from line) ≡ Some text
  pub after : lex in_string (drop from line) ≡ lex between (drop end line)

-- the byte at this place is a hex digit of this value
pub record IsHex (line : List ℕ) (at digit : ℕ) : Type 0 where
  pub value : digit_value (get_or line at 32) ≡ digit
  pub small : digit < 16

-- the four hex digits from this place on spell this character
pub record SpellsCharacter (line : List ℕ) (at c : ℕ) : Type 0 where
  pub a : ℕ
  pub b : ℕ
  pub e : ℕ
  pub f : ℕ
  pub first : IsHex line at a
  pub second : IsHex line (at + 1) b
  pub third : IsHex line (at + 2) e
  pub fourth : IsHex line (at + 3) f
  pub is : c ≡ a * 4096 + b * 256 + e * 16 + f
  pub scalar : IsScalar c

-- each byte between two places is ASCII
abbrev pub AsciiBetween : List ℕ → ℕ → ℕ → Type 0
AsciiBetween bytes from end = (at : ℕ) → from ≤ at → at < end → get_or bytes at 0 < 128
