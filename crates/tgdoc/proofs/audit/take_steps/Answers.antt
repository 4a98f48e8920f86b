use Rattle.std.proofs.Common.{Err, refl, subst}
use Rattle.tg_wire.specs.Promise.Lines.{step_of}
use Rattle.tg_wire.specs.Promise.Reading as reading
use Rattle.tgdoc.specs.Promise.Audits.{SaysStep, not_read}
use Rattle.tgdoc.proofs.AuditLemmas.{loop_goes_on, loop_is_over, loop_refuses, loop_stops, misreads, passed, steps_none, unfailed}
use Rattle.tgdoc.proofs.audit.take_steps.Goals as goal

pub loop-steps-init : goal.loop-steps-init
loop-steps-init g c = record { few = c.requires.few; reads = c.requires.reads; so_far = rw c.new-steps.ensures.items (steps_none _ _) }

pub returns-in_err-more-clause-err : goal.returns-in_err-more-clause-err
returns-in_err-more-clause-err g c = passed _ c.in_err-more.field-0.0 _ c.from_residual.ensures.1 (loop_stops _ _ _ _ _ _ c.loop-steps.invariant.so_far c.in_err-more.ensures.err)

pub returns-then-not-more-clause-ok : goal.returns-then-not-more-clause-ok
returns-then-not-more-clause-ok g c = loop_is_over _ _ _ _ _ _ _ _ _ c.if-not-more.true c.in_ok-more.ensures.few.0 c.loop-steps.invariant.so_far c.in_ok-more.ensures.ok

pub returns-in-Err-clause-err : goal.returns-in-Err-clause-err
returns-in-Err-clause-err g c =
    loop_refuses _ _ _ _ _ _ _ _ _ _ c.if-not-more.false c.in_ok-more.ensures.few.0 c.in_ok-more.ensures.few.1 c.in_ok-more.ensures.short c.loop-steps.invariant.so_far c.in_ok-more.ensures.ok
    (misreads step_of _ c.in-Err.fault (subst (λ line. reading.Answers (Err c.in-Err.fault) (step_of line)) c.line.ensures c.in-Err.ensures.answered))

pub loop-steps-preserved : goal.loop-steps-preserved
loop-steps-preserved g c = record {
  few = c.in_ok-more.ensures.few.1;
  reads = unfailed _ _ _ c.in_ok-more.ensures.failed.0;
  so_far = rw c.in-Ok-push.ensures.items (loop_goes_on _ _ _ _ _ _ _ _ c.in-Ok.step _ c.if-not-more.false c.in_ok-more.ensures.few.0 c.in_ok-more.ensures.few.1 c.in_ok-more.ensures.short c.loop-steps.invariant.so_far c.in_ok-more.ensures.ok
      (subst (SaysStep c.in-Ok.step) c.line.ensures c.in-Ok.ensures.answered));
}

pub returns-in_default-clause-err : goal.returns-in_default-clause-err
returns-in_default-clause-err g c =
    loop_refuses _ _ _ _ _ _ _ _ _ _ c.if-not-more.false c.in_ok-more.ensures.few.0 c.in_ok-more.ensures.few.1 c.in_ok-more.ensures.short c.loop-steps.invariant.so_far c.in_ok-more.ensures.ok (not_read refl)
