use Rattle.std.proofs.Common.{◌∙◌, true≢false, refl, sym}
use Rattle.std.proofs.lemmas.Result.{IfOk-weaker}
use Rattle.std.specs.Prelude.{is_some}
use Rattle.tg_talk.specs.Promise.Answering.{RestAnswered}
use Rattle.tg_talk.proofs.TakingLemmas.{weaker}
use Rattle.tgdoc.specs.Promise.Drawings.{PictureAtEnd, PicturesTold, is_broken}
use Rattle.tgdoc.specs.Promise.Sharing.{AnsweredAtEnd, SharingTold}
use Rattle.tgdoc.specs.Promise.Runs.{AnswersTold}
use Rattle.tgdoc.specs.Inner.Running.{InputLeft}
use Rattle.tgdoc.proofs.PicturesLemmas.{answer_left, last_left}
use Rattle.tgdoc.proofs.RestLemmas.{lines_left}
use Rattle.tgdoc.proofs.SharingLemmas.{opens_graph}
use Rattle.tgdoc.proofs.run.take_rest.Goals as goal

pub returns-in-Answers-clause-told : goal.returns-in-Answers-clause-told
returns-in-Answers-clause-told g c = rw c.in-Answers.is (weaker _ (RestAnswered _ _ _ _ _ _ _ _) (InputLeft AnswersTold _ _ _ _ _) c.answer_lines-finished.ensures.answered (λ xs rest. lines_left c.courses_join.ensures _ _ _ _ _ _ _ xs c.requires.one rest))

pub returns-in-Pictures-clause-memory : goal.returns-in-Pictures-clause-memory
returns-in-Pictures-clause-memory g c = λ h. true≢false (sym (c.answer_lines-finished-in-Pictures.ensures.memory (c.end_drawing.ensures.memory h)).0)

pub returns-in-Pictures-clause-told : goal.returns-in-Pictures-clause-told
returns-in-Pictures-clause-told g c = rw c.in-Pictures.is (weaker _ (RestAnswered _ _ _ _ _ _ _ _) (InputLeft (PicturesTold c.in-Pictures.each) _ _ _ _ _) c.answer_lines-finished-in-Pictures.ensures.answered
    (λ xs rest. last_left is_broken PictureAtEnd c.courses_join.ensures _ _ _ _ _ _ _ _ _ _ xs c.requires.one c.answer_lines-finished-in-Pictures.ensures.stays.0 c.end_drawing.ensures.ends rest))

pub returns-in-Sharing-clause-memory : goal.returns-in-Sharing-clause-memory
returns-in-Sharing-clause-memory g c = λ h. true≢false (sym (c.answer_lines-finished-in-Sharing.ensures.memory (c.end_sharing.ensures.memory h)).0)

pub returns-in-Sharing-clause-told : goal.returns-in-Sharing-clause-told
returns-in-Sharing-clause-told g c = rw c.in-Sharing.is (weaker _ (RestAnswered _ _ _ _ _ _ _ _) (InputLeft (SharingTold c.in-Sharing.question.now) _ _ _ _ _) c.answer_lines-finished-in-Sharing.ensures.answered
    (λ xs rest. answer_left is_some (AnsweredAtEnd c.in-Sharing.question.now) c.courses_join.ensures _ _ _ _ _ _ _ _ _ _ xs c.requires.one c.answer_lines-finished-in-Sharing.ensures.stays.0 refl c.end_sharing.ensures.ends rest))

pub end_sharing-requires-clause-opens : goal.end_sharing-requires-clause-opens
end_sharing-requires-clause-opens g c =
    IfOk-weaker c.copied-first.result _ _
    (λ bytes same. opens_graph c.args.vault c.args.input.line bytes.items c.answer_lines-finished-in-Sharing.new.responder.vault.opening c.requires.opens c.answer_lines-finished-in-Sharing.ensures.stays.1 (same ∙ c.line.ensures))
    c.copied-first.ensures
