use Rattle.std.proofs.Common.{[], ap, refl}
use Rattle.tg_talk.proofs.SendsLemmas.{sends_nothing}
use Rattle.tg_talk.proofs.TakingLemmas.{always, at_start}
use Rattle.tg_talk.proofs.TalkLemmas.{talked}
use Rattle.tg_talk.specs.Promise.Answering.{RestAnswered}
use Rattle.tg_talk.specs.Promise.Talks.{HasTalked, no_buffer}
use Rattle.tg_talk.proofs.talking.talk.Goals as goal

pub returns-in_default-clause-talked : goal.returns-in_default-clause-talked
returns-in_default-clause-talked g c = always _ (HasTalked _ _ _ _ _ _) (λ xs. record { before = []; last = []; text = no_buffer; sent = sends_nothing _ _ })

pub returns-clause-talked : goal.returns-clause-talked
returns-clause-talked g c =
    at_start _ _ (RestAnswered _ _ _ _ _ _ _ _) (HasTalked _ _ _ _ _ _) c.in-Ok.ensures c.answer_lines-finished.ensures.answered
    (λ xs rest. talked (λ h. h.sitting) _ _ _ _ _ _ _ _ _ xs refl c.into_sitting.ensures c.leave.ensures (ap (λ i. i.taken) c.in-Ok.ensures) rest)
