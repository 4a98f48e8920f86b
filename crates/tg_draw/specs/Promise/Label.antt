-- any bytes, as text between quotes
use Rattle.std.specs.Prelude.{ℕ, ◌+◌, ◌==◌, List, [], ◌∷◌, codes, nat_lt, if◌then◌else◌}
use Rattle.std.specs.List.{flat_map}
use Rattle.std.specs.Str.Lossy.{utf8_lossy}

-- a byte without a meaning between quotes: a control byte is shown by its symbol, from U+2400 on
abbrev pub plain_text : ℕ → List ℕ
plain_text b =
    if b == 127 then 226 ∷ 144 ∷ 161 ∷ [] else
    (if nat_lt b 32 then 226 ∷ 144 ∷ (128 + b) ∷ [] else
    b ∷ [])

-- a byte of a label: a line feed ends a row, which stands at the left; what has a meaning is escaped
abbrev pub byte_text : ℕ → List ℕ
byte_text b =
    if b == 10 then codes "\\l" else
    (if b == 34 then codes "\\\"" else
    (if b == 92 then codes "\\\\" else
    (if b == 38 then codes "&amp;" else
    plain_text b)))

-- bytes that are not UTF-8 are read as U+FFFD
abbrev pub label_text : List ℕ → List ℕ
label_text bytes = flat_map byte_text (utf8_lossy bytes)
