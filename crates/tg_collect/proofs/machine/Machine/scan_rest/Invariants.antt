use Rattle.std.proofs.Common.{◌≤◌, Some}
use Rattle.tg_heap.specs.Promise.Graph.{IsHeap}
use Rattle.tg_collect.specs.Inner.Cycles.{MOST_STEPS, Went, steps_left}
use Rattle.tg_collect.specs.Inner.Machine.{scanning, so_far}
use Rattle.tg_collect.specs.declared.machine.Progress.TheVariants as course
use Rattle.tg_collect.proofs.machine.Machine.scan_rest.Given as goal

abbrev pub invariant-loop-cursor : goal.invariant-loop-cursor
invariant-loop-cursor l = record {
  went : Went (so_far l.fn.self (course.Marking (Some l.fn.scan))) (so_far l.self (scanning l.fn.scan.slot l.cursor)) 0 l.steps;
  few : l.steps ≤ MOST_STEPS;
  heap : IsHeap l.self.heap;
}

abbrev pub decreases-loop-cursor : goal.decreases-loop-cursor
decreases-loop-cursor l = steps_left (so_far l.self (scanning l.fn.scan.slot l.cursor))
