-- what `tgdoc draw` writes for the lines of its input: pictures of the vaults of a run
use Rattle.std.specs.Prelude.{◌≡◌, ℕ, ◌+◌, List, [], ◌∷◌, ◌++◌, Bool, true, false, Option, Some, None, codes, if◌then◌else◌, decimal}
use Rattle.tg_draw.specs.Promise.Picture.{Draws}
use Rattle.tg_vault.specs.Promise.Contents.{Contents}
use Rattle.tg_wire.specs.Promise.Faults.{fault_line}
use Rattle.tg_wire.specs.declared.fault.WireFault.TheVariants as wire
use Rattle.tg_talk.specs.Promise.Answering.{Saying, goes_on, closes, unanswered, LinesAnswered, one_if}
use Rattle.tg_talk.specs.Promise.Endings.{EndsOnce}
use Rattle.tg_talk.specs.declared.answering.Finished.{Finished}
use Rattle.tg_talk.specs.declared.fault.TalkFault.{TalkFault}
use Rattle.tg_talk.specs.declared.fault.TalkFault.TheVariants as talk
use Rattle.tgdoc.specs.Promise.Runs.{InputRan, LineAnswer, AnsweredEvents, Telling, VaultRan}

-- how far a run has come: the events that the vault carried out, each with its answer, and the vault then
pub record RunSoFar : Type 0 where
  pub steps : AnsweredEvents
  pub vault : Contents

-- a line is answered, for which the vault carries out some more
pub record Carried (before : RunSoFar) (line answer : List ℕ) (count : ℕ) (after : RunSoFar) : Type 0 where
  pub steps : AnsweredEvents
  pub are : after.steps ≡ before.steps ++ steps
  pub run : VaultRan before.vault steps after.vault
  pub answers : LineAnswer line steps answer count

-- the text is the picture of a vault under a label, or, if there is no memory for it, the line of `out of memory`
pub data Pictured (v : Contents) (label text : List ℕ) : Bool → Type 0 where
  drawn : Draws v label text → Pictured v label text false
  not_drawn : text ≡ fault_line wire.OutOfMemory → Pictured v label text true

-- the label of a picture that is drawn for a line: the line and its answer, which ends with a line feed
abbrev pub line_label : List ℕ → List ℕ → List ℕ
line_label line answer = line ++ 10 ∷ answer

-- the vault is drawn for a line; a picture counts as an `error` line if the answer does
pub record DrawnFor (v : Contents) (line answer : List ℕ) (count : ℕ) (text : List ℕ) (errors : ℕ) : Type 0 where
  pub lacks : Bool
  pub pictured : Pictured v (line_label line answer) text lacks
  pub counted : errors ≡ (if lacks then 1 else count)

-- what is written for a line: the picture of the vault then; or nothing, if only the last vault is drawn
abbrev pub Shown : Bool → Contents → List ℕ → List ℕ → ℕ → List ℕ → ℕ → Type 0
Shown true v line answer count text errors = DrawnFor v line answer count text errors
Shown false v line answer count text errors = (text ≡ []) × (errors ≡ count)

-- what becomes of a line of a run that is drawn
pub record DrawsLine (each : Bool) (before : RunSoFar) (line text : List ℕ) (errors : ℕ) (after : RunSoFar) : Type 0 where
  pub answer : List ℕ
  pub count : ℕ
  pub carried : Carried before line answer count after
  pub shown : Shown each after.vault line answer count text errors

abbrev pub DrawSays : Bool → RunSoFar → List ℕ → Saying → RunSoFar → Type 0
DrawSays each before line (goes_on text errors) after = DrawsLine each before line text errors after
DrawSays each before line (closes text errors) after = ⊥
DrawSays each before line unanswered after = ⊥

-- all lines after the configuration
abbrev pub LinesDrawn : Bool → Contents → AnsweredEvents → Contents → List (List ℕ) → Finished → List ℕ → List ℕ → Type 0
LinesDrawn each start steps after ls finished before last =
    LinesAnswered (DrawSays each) (record { steps = []; vault = start }) 1 0 ls (record { steps = steps; vault = after }) finished.fault finished.lines finished.errors before last

-- the label of the last vault: how many lines were taken, and how many `error` lines a run would have answered
abbrev pub ends_label : ℕ → ℕ → List ℕ
ends_label lines errors = codes "lines " ++ decimal lines ++ codes ", errors " ++ decimal errors ++ codes "\n"

-- the reader or the writer failed
abbrev pub is_broken : Option TalkFault → Bool
is_broken None = false
is_broken (Some talk.Reading) = true
is_broken (Some talk.Writing) = true
is_broken (Some talk.TooLong) = false
is_broken (Some talk.TooMany) = false
is_broken (Some talk.OutOfMemory) = false

-- what is written after the lines, if they ended in this way: of the vault then, a text and whether it counts as an
-- `error` line
abbrev pub Ending : Type 1
Ending = Contents → Finished → List ℕ → Bool → Type 0

-- a text is written after the lines, behind what was written before
pub record WrittenAtEnd (Writes : List ℕ → Bool → Type 0) (ended finished : Finished) (failed : Bool) (text : List ℕ) : Type 0 where
  pub is_error : Bool
  pub written : Writes text is_error
  pub lines : finished.lines ≡ ended.lines
  pub errors : finished.errors ≡ ended.errors + one_if is_error
  pub fault : EndsOnce ended.fault failed finished.fault

-- nothing is written for a line; a text is after the last one, unless the lines ended in a way that stops it
pub data LastWritten (stops : Option TalkFault → Bool) (Writes : Ending) (start : Contents) (steps : AnsweredEvents) (after : Contents) (ls : List (List ℕ)) (finished : Finished) (before last : List ℕ) : Type 0 where
  at_end : (ended : Finished) (failed : Bool) (first refusal : List ℕ) → LinesDrawn false start steps after ls ended first refusal → stops ended.fault ≡ false
      → WrittenAtEnd (Writes after ended) ended finished failed last → before ≡ first ++ refusal → LastWritten stops Writes start steps after ls finished before last
  cut_off : LinesDrawn false start steps after ls finished before last → stops finished.fault ≡ true → LastWritten stops Writes start steps after ls finished before last

-- something is written for each line, or a text after the last one
abbrev pub EachOrLast : (Option TalkFault → Bool) → Ending → Bool → Telling
EachOrLast stops Writes true = LinesDrawn true
EachOrLast stops Writes false = LastWritten stops Writes

-- the picture of the last vault
abbrev pub PictureAtEnd : Ending
PictureAtEnd v ended text lacks = Pictured v (ends_label ended.lines ended.errors) text lacks

-- each vault is drawn, or the last one
abbrev pub PicturesTold : Bool → Telling
PicturesTold each = EachOrLast is_broken PictureAtEnd each

-- what a whole run that is drawn does if the reader has the bytes input
abbrev pub LinesDrew : Bool → Finished → (old new : Option (List ℕ)) (failed : Bool) → List ℕ → Type 0
LinesDrew each finished old new failed = InputRan (PicturesTold each) finished old new failed
