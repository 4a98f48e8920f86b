-- what is done to draw the vault for a line, and at the end
use Rattle.std.specs.Prelude.{◌≡◌, ℕ, List, Bool, true, false, Option, ◌⊎◌}
use Rattle.tg_talk.specs.Promise.Answering.{Saying, goes_on, closes, unanswered}
use Rattle.tg_talk.specs.Promise.Devices.{Sends}
use Rattle.tg_talk.specs.declared.answering.Finished.{Finished}
use Rattle.tg_talk.specs.declared.fault.TalkFault.{TalkFault}
use Rattle.tgdoc.specs.Promise.Drawings.{PictureAtEnd, Shown, WrittenAtEnd, is_broken}
use Rattle.tgdoc.specs.Inner.Running.{AnswersLine}
use Rattle.tgdoc.specs.declared.pictures.Artist.{Artist}

-- the vault carries out a line, and this is written for it
pub record ArtistDraws (old : Artist) (line text : List ℕ) (errors : ℕ) (new : Artist) : Type 0 where
  pub same : new.each ≡ old.each
  pub answer : List ℕ
  pub count : ℕ
  pub answers : AnswersLine old.vault line new.vault answer count
  pub shown : Shown old.each new.vault line answer count text errors

-- what becomes of a line of a run that is drawn
abbrev pub ArtistSays : Artist → List ℕ → Saying → Artist → Type 0
ArtistSays old line (goes_on text errors) new = ArtistDraws old line text errors new
ArtistSays old line (closes text errors) new = ⊥
ArtistSays old line unanswered new = ⊥

-- a text is written after the last line, once the lines have ended in this way
pub record WrittenLast (Writes : List ℕ → Bool → Type 0) (ended finished : Finished) (old new : Option (List ℕ)) (failed : Bool) : Type 0 where
  pub text : List ℕ
  pub written : WrittenAtEnd Writes ended finished failed text
  pub sent : Sends old new failed text

-- once the lines have ended in this way, nothing more is written, since each has its picture or the way stops it; or the
-- last text
pub data EndsWith (each : Bool) (stops : Option TalkFault → Bool) (Writes : Finished → List ℕ → Bool → Type 0) (ended finished : Finished) (old : Option (List ℕ)) (was : Bool) (new : Option (List ℕ)) (failed : Bool) : Type 0 where
  rests : (each ≡ true) ⊎ (stops ended.fault ≡ true) → finished ≡ ended → new ≡ old → failed ≡ was → EndsWith each stops Writes ended finished old was new failed
  writes : each ≡ false → stops ended.fault ≡ false → was ≡ false → WrittenLast (Writes ended) ended finished old new failed → EndsWith each stops Writes ended finished old was new failed

-- the last picture, if there is one
abbrev pub EndsDrawing : Artist → (ended finished : Finished) → (old : Option (List ℕ)) → (was : Bool) → (new : Option (List ℕ)) → (failed : Bool) → Type 0
EndsDrawing artist ended finished old was new failed = EndsWith artist.each is_broken (PictureAtEnd artist.vault) ended finished old was new failed
