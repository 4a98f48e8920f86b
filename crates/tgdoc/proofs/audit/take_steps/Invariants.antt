use Rattle.std.proofs.Common.{◌≡◌, ◌≤◌, ◌-◌, false, IfSome}
use Rattle.tg_talk.specs.Promise.Devices.{device_of, has_failed}
use Rattle.tg_talk.specs.declared.line_buffer.TheConstants.{MOST_LINES}
use Rattle.tgdoc.specs.Inner.Auditing.{unread}
use Rattle.tgdoc.proofs.AuditLemmas.{StepsSoFar}
use Rattle.tgdoc.proofs.audit.take_steps.Given as goal

abbrev pub invariant-loop-steps : goal.invariant-loop-steps
invariant-loop-steps g l = record {
  few : l.input.taken ≤ MOST_LINES;
  reads : has_failed l.reader ≡ false;
  so_far : IfSome (unread l.fn.input (g.R.Read.remaining (device_of l.fn.reader))) (StepsSoFar l.fn.input.taken l.input.taken l.steps.items (unread l.input (g.R.Read.remaining (device_of l.reader))));
}

abbrev pub decreases-loop-steps : goal.decreases-loop-steps
decreases-loop-steps g l = MOST_LINES - l.input.taken
