-- one turn: a line is taken and answered
use Rattle.std.specs.Io.KnownBytes.{Appends}
use Rattle.std.specs.Prelude.{◌≡◌, ℕ, ◌+◌, ◌<◌, ◌≤◌, List, [], ◌++◌, length, Bool, true, false, Option, Some, None}
use Rattle.tg_talk.specs.Promise.Devices.{Sends}
use Rattle.tg_talk.specs.Promise.InputLines.{lines_of}
use Rattle.tg_talk.specs.Promise.Taking.{TakesLine}
use Rattle.tg_talk.specs.Promise.Answering.{How, LinesAnswered}
use Rattle.tg_talk.specs.declared.fault.TalkFault.{TalkFault}
use Rattle.tg_talk.specs.declared.answering.Turn.{Turn}
use Rattle.tg_talk.specs.declared.answering.Turn.TheVariants as turn

abbrev pub goes_on_in : Turn → Bool
goes_on_in turn.GoOn = true
goes_on_in (turn.Ended f) = false

abbrev pub fault_in : Turn → Option TalkFault
fault_in turn.GoOn = None
fault_in (turn.Ended f) = f

-- A point in the input: what answers; the lines taken, and the `error` lines among their answers; the bytes that are to
-- come; and what the writer has got, followed by what it holds back.
pub record Point (S : Type 0) : Type 0 where
  pub state : S
  pub lines : ℕ
  pub errors : ℕ
  pub unread : Option (List ℕ)
  pub promised : Option (List ℕ)

abbrev pub point : {S : Type 0} → S → ℕ → ℕ → Option (List ℕ) → Option (List ℕ) → Point S
point s n e unread promised = record { state = s; lines = n; errors = e; unread = unread; promised = promised }

-- From one point, if the bytes xs are to come, to a later one each line is answered: whatever completes the lines from
-- there completes them from here.
pub record Continues {S : Type 0} (Says : How S) (here there : Point S) (xs : List ℕ) : Type 0 where
  pub text : List ℕ
  pub left : List ℕ
  pub is : there.unread ≡ Some left
  pub written : Appends here.promised there.promised text
  pub completes : (t : S) (f : Option TalkFault) (m d : ℕ) (before last : List ℕ) → LinesAnswered Says there.state there.lines there.errors (lines_of left) t f m d before last
      → LinesAnswered Says here.state here.lines here.errors (lines_of xs) t f m d (text ++ before) last

-- from one point, if the bytes xs are to come, to a later one the lines end, with one more answer at most
pub record Closes {S : Type 0} (Says : How S) (f : Option TalkFault) (here there : Point S) (failed : Bool) (xs : List ℕ) : Type 0 where
  pub text : List ℕ
  pub told : LinesAnswered Says here.state here.lines here.errors (lines_of xs) there.state f there.lines there.errors [] text
  pub sent : Sends here.promised there.promised failed text

-- what a turn does, if the bytes xs are to come
abbrev pub Turned : {S : Type 0} → How S → Turn → Point S → Point S → Bool → List ℕ → Type 0
Turned Says turn.GoOn here there failed xs = Continues Says here there xs
Turned Says (turn.Ended f) here there failed xs = Closes Says f here there failed xs

-- what it does after it has taken a line, which is counted at the first of these points
abbrev pub AnswersTaken : {S : Type 0} → How S → Turn → List ℕ → Point S → Point S → Bool → Type 0
AnswersTaken Says res line here there failed =
    (n : ℕ) (unread : Option (List ℕ)) (xs : List ℕ) → n < 1000000 → length line ≤ 16384 → here.lines ≡ n + 1 → TakesLine line xs here.unread → Turned Says res (record here { lines = n; unread = unread }) there failed xs
