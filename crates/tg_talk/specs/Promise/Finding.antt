-- what is at the front of a buffer of bytes that were read, before the bytes that are left to read
use Rattle.std.specs.Prelude.{◌≡◌, ℕ, ◌<◌, ◌≤◌, List, [], length, take, Option, Bool, false, ◌||◌, nat_lt}
use Rattle.std.specs.Io.KnownBytes.{IsAtEnd}
use Rattle.tg_talk.specs.Promise.InputLines.{has_newline, IsFirstNewline}
use Rattle.tg_talk.specs.declared.line_buffer.Found.{Found}
use Rattle.tg_talk.specs.declared.line_buffer.Found.TheVariants as found

-- a line is at hand, or more bytes than a line may have: what is at the front is known without a read
abbrev pub is_decided : List ℕ → Bool
is_decided buffer = has_newline buffer || nat_lt 16384 (length buffer)

-- what was found at the front of the buffer, if the reader has these bytes left; a read failed only if no line was at
-- hand
abbrev pub FindsLine : Found → List ℕ → Option (List ℕ) → Type 0
FindsLine (found.Line n) buffer rest = IsFirstNewline buffer n × (n ≤ 16384)
FindsLine found.Last buffer rest = (has_newline buffer ≡ false) × (0 < length buffer) × (length buffer ≤ 16384) × IsAtEnd rest
FindsLine found.End buffer rest = (buffer ≡ []) × IsAtEnd rest
FindsLine found.TooLong buffer rest = (16384 < length buffer) × (has_newline (take 16385 buffer) ≡ false)
FindsLine found.Failed buffer rest = is_decided buffer ≡ false
