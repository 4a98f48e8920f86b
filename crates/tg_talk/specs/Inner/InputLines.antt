-- where the lines of a text end
use Rattle.std.specs.Prelude.{◌≡◌, ℕ, List, drop, nat_lt}
use Rattle.tg_talk.specs.Promise.InputLines.{has_newline}

-- n is the place after the last line feed of xs, or 0 if it has none: from which places on there is one
abbrev pub EndsLines : List ℕ → ℕ → Type 0
EndsLines xs n = (k : ℕ) → has_newline (drop k xs) ≡ nat_lt k n
