use Rattle.std.proofs.Common.{◌≤◌, length}
use Rattle.tg_rights.specs.declared.limits.TheConstants.{MAX_SLOTS}
use Rattle.tg_heap.specs.Promise.Graph.{IsHeap}
use Rattle.tg_collect.specs.Inner.Cycles.{MOST_STEPS, Went, steps_left}
use Rattle.tg_collect.specs.Inner.Machine.{so_far}
use Rattle.tg_collect.specs.declared.machine.Progress.TheVariants as course
use Rattle.tg_collect.proofs.machine.Machine.sweep_rest.Given as goal

abbrev pub invariant-loop-at : goal.invariant-loop-at
invariant-loop-at l = record {
  went : Went (so_far l.fn.self (course.Sweeping l.fn.from)) (so_far l.self (course.Sweeping l.at)) l.freed l.steps;
  few : l.steps ≤ MOST_STEPS;
  heap : IsHeap l.self.heap;
  size : length l.self.heap.table.slots ≤ MAX_SLOTS;
}

abbrev pub decreases-loop-at : goal.decreases-loop-at
decreases-loop-at l = steps_left (so_far l.self (course.Sweeping l.at))
