-- readers and writers that are watched, and what a writer holds after some bytes were sent
use Rattle.std.specs.Io.Buffered.{writer_buffer, writer_contents}
use Rattle.std.specs.Io.KnownBytes.{Appends}
use Rattle.std.specs.Prelude.{◌≡◌, ℕ, List, [], ◌++◌, length, Option, Bool, true, false, ◌&&◌, ◌==◌, nat_lt, Result, Ok, Err}
use Rattle.std.specs.declared.alloc.Global.{Global}
use Rattle.std.specs.declared.io.buffered.BufWriter.{BufWriter}
use Rattle.tg_talk.specs.declared.watched.Watched.{Watched}

-- the reader or the writer that is watched
abbrev pub device_of : {D : Type 0} → Watched D → D
device_of w = w.device

-- a read or a write on it has failed
abbrev pub has_failed : {D : Type 0} → Watched D → Bool
has_failed w = w.failed

-- the answers that a writer holds back
abbrev pub owed : {W : Type 0} → Watched (BufWriter W Global) → List ℕ
owed w = writer_buffer (device_of w)

-- what a writer has got, followed by the answers that it holds back
abbrev pub promised : {W : Type 0} → (W → Option (List ℕ)) → Watched (BufWriter W Global) → Option (List ℕ)
promised contents w = writer_contents contents (device_of w)

-- a write that returns an error, or takes 0 bytes of some
abbrev pub took_none : {E : Type 0} → Result ℕ E → List ℕ → Bool
took_none (Ok n) buf = (n == 0) && nat_lt 0 (length buf)
took_none (Err e) buf = true

-- what a writer holds after bytes were sent: all of them, or, if it failed, a prefix of them
pub record Sends (old new : Option (List ℕ)) (failed : Bool) (bytes : List ℕ) : Type 0 where
  pub done : List ℕ
  pub rest : List ℕ
  pub split : bytes ≡ done ++ rest
  pub appended : Appends old new done
  pub whole : failed ≡ false → rest ≡ []

-- what it holds after `before` and `last` were sent in turn: all of `before`, and of `last` all, or, if it failed, a
-- prefix
pub record SendsLast (old new : Option (List ℕ)) (failed : Bool) (before last : List ℕ) : Type 0 where
  pub done : List ℕ
  pub rest : List ℕ
  pub split : last ≡ done ++ rest
  pub appended : Appends old new (before ++ done)
  pub whole : failed ≡ false → rest ≡ []
