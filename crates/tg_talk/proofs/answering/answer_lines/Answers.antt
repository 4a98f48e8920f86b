use Rattle.std.proofs.Common.{[], None, refl, arith}
use Rattle.tg_talk.proofs.AnsweringLemmas.{continues_closed, continues_here, continues_more}
use Rattle.tg_talk.proofs.SendsLemmas.{sends_none}
use Rattle.tg_talk.proofs.TakingLemmas.{always, weaker}
use Rattle.tg_talk.specs.Promise.Answering.{RestAnswered, unpaid}
use Rattle.tg_talk.specs.Inner.Answering.{Closes, Continues}
use Rattle.tg_talk.proofs.answering.answer_lines.Goals as goal

pub turns-init : goal.turns-init
turns-init g c = record {
  few = c.requires.few;
  errors = omega arith;
  reads = c.requires.reads;
  writes = c.requires.writes;
  stays = c.requires.stays;
  so_far = continues_here _ _ _ _ _ _;
}

pub turns-preserved : goal.turns-preserved
turns-preserved g c = record {
  few = omega (arith, c.in-GoOn.ensures.few refl);
  errors = c.in-GoOn.ensures.errors;
  reads = c.in-GoOn.ensures.reads refl;
  writes = c.in-GoOn.ensures.writes refl;
  stays = c.in-GoOn.ensures.stays _ c.turns.invariant.stays;
  so_far = weaker _ (Continues _ _ _) (Continues _ _ _) c.turns.invariant.so_far (λ xs so. continues_more _ _ _ _ _ xs so c.may_read.ensures.kept c.in-GoOn.ensures.turned);
}

pub returns-then-not-may_read-clause-answered : goal.returns-then-not-may_read-clause-answered
returns-then-not-may_read-clause-answered g c =
    rw c.over.ensures (weaker _ (Continues _ _ _) (RestAnswered _ _ _ _ _ _ _ _) c.turns.invariant.so_far (λ xs so. continues_closed _ _ _ _ _ _ _ None _ _ _ _ _ _ xs so c.may_read.ensures.kept
    (always _ (Closes _ _ _ _ _) (λ left. record { text = []; told = unpaid; sent = sends_none _ _ }))))

pub returns-in-Ended-clause-answered : goal.returns-in-Ended-clause-answered
returns-in-Ended-clause-answered g c =
    rw c.over-in-Ended.ensures (weaker _ (Continues _ _ _) (RestAnswered _ _ _ _ _ _ _ _) c.turns.invariant.so_far
    (λ xs so. continues_closed _ _ _ _ _ _ _ _ _ _ _ _ _ _ xs so c.may_read.ensures.kept c.in-Ended.ensures.turned))
