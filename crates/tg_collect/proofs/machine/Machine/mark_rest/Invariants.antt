use Rattle.std.proofs.Common.{◌≤◌, None}
use Rattle.tg_collect.specs.Inner.Cycles.{MOST_STEPS, Went, steps_left}
use Rattle.tg_collect.specs.Inner.Machine.{so_far}
use Rattle.tg_collect.specs.declared.machine.Progress.TheVariants as course
use Rattle.tg_collect.proofs.machine.Machine.mark_rest.Given as goal

abbrev pub invariant-loop-more : goal.invariant-loop-more
invariant-loop-more l = record {
  went : Went (so_far l.fn.self (course.Marking None)) (so_far l.self (course.Marking None)) 0 l.steps;
  few : l.steps ≤ MOST_STEPS;
}

abbrev pub decreases-loop-more : goal.decreases-loop-more
decreases-loop-more l = steps_left (so_far l.self (course.Marking None))
