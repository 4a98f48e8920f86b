-- the bytes of a text, wherever they lie, and what it knows of them
use Rattle.std.specs.Prelude.{◌≡◌, ℕ, List, true, ⊤}
use Rattle.std.specs.String.{string_bytes}
use Rattle.std.specs.Arc.{arc_value}
use Rattle.tg_rights.specs.Promise.Escapes.{NeedsNoEscape}
use Rattle.tg_rights.specs.declared.text.Content.{Content}
use Rattle.tg_rights.specs.declared.text.Content.TheVariants.{Few, FewPlain, Own, Shared}

abbrev pub bytes_of : Content → List ℕ
bytes_of (Few content) = content.bytes
bytes_of (FewPlain content) = content.bytes
bytes_of (Own content) = string_bytes content
bytes_of (Shared plain content) = string_bytes (arc_value content)

-- what it says of escapes is right
abbrev pub KnowsOfEscapes : Content → Type 0
KnowsOfEscapes (Shared plain content) = plain ≡ true → NeedsNoEscape (string_bytes (arc_value content))
KnowsOfEscapes (FewPlain content) = NeedsNoEscape content.bytes
KnowsOfEscapes _ = ⊤
