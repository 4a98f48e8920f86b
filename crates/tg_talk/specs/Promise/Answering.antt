-- lines that are answered one after another
use Rattle.std.specs.Prelude.{◌≡◌, ℕ, ◌+◌, ◌<◌, ◌≤◌, List, [], ◌∷◌, ◌++◌, length, Bool, true, false, Option, Some, None, ◌⊎◌, if◌then◌else◌}
use Rattle.tg_vault.specs.declared.event.Answer.{Answer}
use Rattle.tg_wire.specs.Promise.Answers.{answer_line, is_error}
use Rattle.tg_wire.specs.Promise.Faults.{fault_line}
use Rattle.tg_wire.specs.declared.fault.WireFault.TheVariants as wire
use Rattle.tg_talk.specs.Promise.Devices.{SendsLast}
use Rattle.tg_talk.specs.Promise.InputLines.{lines_of}
use Rattle.tg_talk.specs.Promise.Refusals.{too_many_line, not_for_a_session_line}
use Rattle.tg_talk.specs.Promise.Endings.{IsFault, EndsThere}
use Rattle.tg_talk.specs.declared.fault.TalkFault.{TalkFault}
use Rattle.tg_talk.specs.declared.fault.TalkFault.TheVariants as talk
use Rattle.tg_talk.specs.declared.answering.Text.{Text}
use Rattle.tg_talk.specs.declared.answering.Text.TheVariants as text
use Rattle.tg_talk.specs.declared.answering.Said.{Said}
use Rattle.tg_talk.specs.declared.answering.Said.TheVariants as said
use Rattle.tg_talk.specs.declared.answering.Finished.{Finished}

-- the line of an answer, if this is the room's, or that of a refusal
abbrev pub shown_line : List ℕ → Text → List ℕ
shown_line line text.Line = line
shown_line line text.ErrorLine = line
shown_line line (text.Refusal f) = fault_line f
shown_line line text.NotForASession = not_for_a_session_line

-- it is an `error` line
abbrev pub is_wrong : Text → Bool
is_wrong text.Line = false
is_wrong text.ErrorLine = true
is_wrong (text.Refusal f) = true
is_wrong text.NotForASession = true

abbrev pub one_if : Bool → ℕ
one_if error = if error then 1 else 0

-- the text is the answer's line, or that of `out of memory`
abbrev pub TellsAnswer : Answer → List ℕ → Bool → Type 0
TellsAnswer answer told wrong = ((told ≡ answer_line answer) × (wrong ≡ is_error answer)) ⊎ ((told ≡ fault_line wire.OutOfMemory) × (wrong ≡ true))

-- What becomes of a line: this text answers it, and counts as so many `error` lines; the same, and no further line is
-- taken; or nothing answers it, since there is no memory for the line of its reply, and no further line is taken.
pub data Saying : Type 0 where
  goes_on : (text : List ℕ) (errors : ℕ) → Saying
  closes : (text : List ℕ) (errors : ℕ) → Saying
  unanswered : Saying

-- how lines are answered: what is before a line, the line, what becomes of it, and what is then
abbrev pub How : Type 0 → Type 1
How S = S → List ℕ → Saying → S → Type 0

-- the same by what is said and the room's line
abbrev pub saying : List ℕ → Said → Saying
saying line (said.Answer t) = goes_on (shown_line line t) (one_if (is_wrong t))
saying line (said.Last t) = closes (shown_line line t) (one_if (is_wrong t))
saying line said.Nothing = unanswered

-- Lines are answered, each as `Says` has it of what was before it, of the line, and of what is then. After n lines, e
-- of them answered by `error` lines: the lines that are left; what is at the end; the fault, the lines taken in all,
-- and the `error` lines among the answers; the text of the answers before the last one, and that of the last.
pub data LinesAnswered {S : Type 0} (Says : How S) : S → ℕ → ℕ → List (List ℕ) → S → Option TalkFault → ℕ → ℕ → List ℕ → List ℕ → Type 0 where
  ended : {s : S} {n e : ℕ} → LinesAnswered Says s n e [] s None n e [] []
  -- the reader failed
  stopped : {s : S} {n e : ℕ} {ls : List (List ℕ)} → LinesAnswered Says s n e ls s (Some talk.Reading) n e [] []
  -- the writer failed at answers that it held back
  unpaid : {s : S} {n e : ℕ} {ls : List (List ℕ)} → LinesAnswered Says s n e ls s (Some talk.Writing) n e [] []
  -- the writer failed at the answer of this line
  cut : {s t : S} {n e k m d : ℕ} {l text : List ℕ} {ls : List (List ℕ)}
      → n < 1000000 → length l ≤ 16384 → Says s l (goes_on text k) t → m ≡ n + 1 → d ≡ e + k → LinesAnswered Says s n e (l ∷ ls) t (Some talk.Writing) m d [] text
  over : {s t : S} {n e k m d : ℕ} {l text : List ℕ} {ls : List (List ℕ)} {f : Option TalkFault}
      → n < 1000000 → length l ≤ 16384 → Says s l (closes text k) t → EndsThere f → m ≡ n + 1 → d ≡ e + k → LinesAnswered Says s n e (l ∷ ls) t f m d [] text
  untold : {s t : S} {n e m d : ℕ} {l : List ℕ} {ls : List (List ℕ)} {f : Option TalkFault}
      → n < 1000000 → length l ≤ 16384 → Says s l unanswered t → IsFault talk.OutOfMemory f → m ≡ n + 1 → d ≡ e → LinesAnswered Says s n e (l ∷ ls) t f m d [] []
  too_many : {s : S} {n e m d : ℕ} {l : List ℕ} {ls : List (List ℕ)} {f : Option TalkFault}
      → n ≡ 1000000 → IsFault talk.TooMany f → m ≡ n + 1 → d ≡ e + 1 → LinesAnswered Says s n e (l ∷ ls) s f m d [] too_many_line
  too_long : {s : S} {n e m d : ℕ} {l : List ℕ} {ls : List (List ℕ)} {f : Option TalkFault}
      → n < 1000000 → 16384 < length l → IsFault talk.TooLong f → m ≡ n + 1 → d ≡ e + 1 → LinesAnswered Says s n e (l ∷ ls) s f m d [] (fault_line wire.TooLong)
  answered : {s t u : S} {n e k m d : ℕ} {l text before last : List ℕ} {ls : List (List ℕ)} {f : Option TalkFault}
      → n < 1000000 → length l ≤ 16384 → Says s l (goes_on text k) t → LinesAnswered Says t (n + 1) (e + k) ls u f m d before last
      → LinesAnswered Says s n e (l ∷ ls) u f m d (text ++ before) last

-- ---- a turn

-- the result of the lines that were left after n of them, if the bytes xs are to come
pub record RestAnswered {S : Type 0} (Says : How S) (s : S) (n : ℕ) (t : S) (finished : Finished) (old new : Option (List ℕ)) (failed : Bool) (xs : List ℕ) : Type 0 where
  pub before : List ℕ
  pub last : List ℕ
  pub told : LinesAnswered Says s n 0 (lines_of xs) t finished.fault finished.lines finished.errors before last
  pub sent : SendsLast old new failed before last
