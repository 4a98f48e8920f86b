-- texts that JSON has as they stand
use Rattle.std.specs.Prelude.{◌≡◌, ℕ, ◌<◌, ◌||◌, ◌==◌, List, Bool, true, not, get_or, length, nat_lt}

-- a quote, a backslash or a control byte
abbrev pub is_escaped : ℕ → Bool
is_escaped byte = (byte == 34) || (byte == 92) || nat_lt byte 32

-- no byte needs an escape
abbrev pub NeedsNoEscape : List ℕ → Type 0
NeedsNoEscape text = (k : ℕ) → k < length text → not (is_escaped (get_or text k 0)) ≡ true
