-- what one read does to a buffer of bytes
use Rattle.std.specs.Prelude.{◌≡◌, ℕ, ◌<◌, List, length, Option}
use Rattle.std.specs.Io.KnownBytes.{IsAtEnd}
use Rattle.tg_talk.specs.declared.line_buffer.Filled.{Filled}
use Rattle.tg_talk.specs.declared.line_buffer.Filled.TheVariants as filled

-- what one read did to the buffer
abbrev pub Fills : Filled → List ℕ → List ℕ → Option (List ℕ) → Type 0
Fills filled.More old new rest = length old < length new
Fills filled.End old new rest = (new ≡ old) × IsAtEnd rest
Fills filled.Failed old new rest = new ≡ old
