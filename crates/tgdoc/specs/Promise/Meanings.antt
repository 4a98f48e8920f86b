-- runs, audits, pictures and questions in other words
use Rattle.std.specs.Prelude.{◌≡◌, ◌<◌, ◌⊎◌, ℕ, Bool, List, [], ◌∷◌, None, Ok, Err}
use Rattle.tg_rights.specs.declared.limits.TheConstants.{SEATS}
use Rattle.tg_graph.specs.declared.derivation.Goal.{Goal}
use Rattle.tg_graph.specs.declared.derivation.Step.{Step}
use Rattle.tg_graph.specs.declared.derivation.Verdict.TheVariants as verdict
use Rattle.tg_graph.specs.Promise.Derivations.{CanShare}
use Rattle.tg_graph.specs.Promise.Protection.{Protection}
use Rattle.tg_collect.specs.declared.note.Note.{Note}
use Rattle.tg_vault.specs.declared.event.Event.{Event}
use Rattle.tg_vault.specs.declared.event.Event.TheVariants as event
use Rattle.tg_vault.specs.declared.event.Answer.{Answer}
use Rattle.tg_vault.specs.declared.event.Answer.TheVariants as answer
use Rattle.tg_vault.specs.Promise.Contents.{Contents, graph_now}
use Rattle.tg_audit.specs.Promise.Verdicts.{IsMet}
use Rattle.tg_sharing.specs.Promise.Lookups.{RunsOut}
use Rattle.tg_wire.specs.Promise.Lines.{config_of, line_of}
use Rattle.tg_wire.specs.Promise.Answers.{answer_line, swept_line, verdict_line}
use Rattle.tg_wire.specs.Promise.Faults.{fault_line}
use Rattle.tg_wire.specs.declared.line.Line.TheVariants.{Act, Cycle}
use Rattle.tg_wire.specs.declared.fault.WireFault.{WireFault}
use Rattle.tg_wire.specs.declared.fault.WireFault.TheVariants as wire
use Rattle.tg_serve.specs.declared.operating.Operating.{Operating}
use Rattle.tg_talk.specs.declared.answering.Finished.{Finished}
use Rattle.tgdoc.specs.Promise.Audits.{AuditRead, LinesAudited}
use Rattle.tgdoc.specs.Promise.Drawings.{DrawnFor}
use Rattle.tgdoc.specs.Promise.Modes.{AreInRange}
use Rattle.tgdoc.specs.Promise.Named.{Names}
use Rattle.tgdoc.specs.Promise.Runs.{AnswersTold, InputRun, LineAnswer}
use Rattle.tgdoc.specs.Promise.Sharing.{AnsweredPair, IsGoalOf, Shows}
use Rattle.tgdoc.specs.declared.question.Pair.{Pair}
use Rattle.tgdoc.specs.declared.question.VertexName.{VertexName}

-- the text is this, or that memory was lacking for it
abbrev pub IsTold : (wanted text : List ℕ) → Type 0
IsTold wanted text = (text ≡ wanted) ⊎ (text ≡ fault_line wire.OutOfMemory)

-- a line for which the vault carried out one event asked for it, and is answered by its answer; and a cycle line for
-- which one collector step was made tells how many slots that step freed
pub record LineMeans (line text : List ℕ) (errors : ℕ) : Type 0 where
  pub asked : (wanted done : Event) (answer : Answer) → line_of line ≡ Ok (Act wanted) → LineAnswer line ((done, answer) ∷ []) text errors →
      (done ≡ wanted) × IsTold (answer_line answer) text
  pub swept : (note : Note) → line_of line ≡ Ok Cycle → LineAnswer line ((event.Collect, answer.Noted note) ∷ []) text errors →
      IsTold (swept_line (record { freed = note.freed; steps = 1 })) text

abbrev pub LinesHaveMeanings : Type 0
LinesHaveMeanings = (line text : List ℕ) (errors : ℕ) → LineMeans line text errors

-- nothing is told before the last line of a run whose first line is no configuration
abbrev pub RunsBegin : Type 0
RunsBegin =
    (l : List ℕ) (ls : List (List ℕ)) (finished : Finished) (before last : List ℕ) (f : WireFault) →
    InputRun AnswersTold (l ∷ ls) finished before last → config_of l ≡ Err f → before ≡ []

-- an audit that ends without a fault and without an `error` line has shown that its steps meet its goal
abbrev pub AuditsShow : Type 0
AuditsShow =
    (ls : List (List ℕ)) (finished : Finished) (text : List ℕ) → LinesAudited ls finished text → finished.fault ≡ None → finished.errors ≡ 0 →
    (G : Protection) × (goal : Goal) × (steps : List Step) × AuditRead ls G goal steps × IsMet G steps goal × (text ≡ verdict_line verdict.Shared)

-- a picture that is drawn counts as the answer does on whose account it is
abbrev pub PicturesCount : Type 0
PicturesCount =
    (v : Contents) (line answer text : List ℕ) (count errors : ℕ) → DrawnFor v line answer count text errors →
    (text ≡ fault_line wire.OutOfMemory) ⊎ (errors ≡ count)

-- what words of the command line say: a server has a seat more than workers, and a word names one vertex at most
pub record WordsMean (G : Protection) : Type 0 where
  pub seat_left : (workers connections round : ℕ) (operating : Operating) → AreInRange workers connections round operating → workers < SEATS
  pub once : (word : VertexName) (x y : ℕ) → Names G word x → Names G word y → x ≡ y

abbrev pub WordsHaveMeanings : Type 0
WordsHaveMeanings = (G : Protection) → WordsMean G

-- if a goal can be shared, the answer shows so, unless serials run out or memory is lacking
abbrev pub SharingIsShown : Type 0
SharingIsShown =
    (v : Contents) (q : Pair) (goal : Goal) (text : List ℕ) (is_error : Bool) →
    AnsweredPair v q text is_error → IsGoalOf (graph_now v) q goal → CanShare (graph_now v) goal →
    Shows q.steps v goal text ⊎ (RunsOut (graph_now v) ⊎ (text ≡ fault_line wire.OutOfMemory))
