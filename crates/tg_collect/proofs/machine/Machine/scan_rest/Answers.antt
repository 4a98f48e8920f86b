use Rattle.std.proofs.Common.{None, Some, arith}
use Rattle.tg_collect.specs.Inner.Machine.{scanning, so_far}
use Rattle.tg_collect.specs.declared.machine.Progress.TheVariants as course
use Rattle.tg_collect.proofs.CycleLemmas.{less_left, went_more, went_none}
use Rattle.tg_collect.proofs.machine.Machine.scan_rest.Goals as goal

pub loop-cursor-init : goal.loop-cursor-init
loop-cursor-init c = record {
  went = went_none (so_far c.args.self.now (course.Marking (Some c.args.scan))) c.requires.whole;
  few = omega arith;
  heap = c.soundness.ensures.sound;
}

pub loop-cursor-smaller : goal.loop-cursor-smaller
loop-cursor-smaller c =
    less_left (so_far c.loop-cursor.self (scanning c.args.scan.slot c.loop-cursor.cursor)) (so_far c.scan_cell-cursor.new.self (scanning c.args.scan.slot c.scan_cell-cursor.result)) 0
    c.loop-cursor.invariant.went.whole (rw c.in-Some.is c.scan_cell-cursor.ensures.line) c.loop-cursor.invariant.heap c.soundness-in-Some.ensures.sound

pub loop-cursor-preserved : goal.loop-cursor-preserved
loop-cursor-preserved c =
    let went = went_more (so_far c.args.self.now (course.Marking (Some c.args.scan))) (so_far c.loop-cursor.self (scanning c.args.scan.slot c.loop-cursor.cursor)) (so_far c.scan_cell-cursor.new.self (scanning c.args.scan.slot c.scan_cell-cursor.result))
    0 c.loop-cursor.steps 0 c.loop-cursor.invariant.went (rw c.in-Some.is c.scan_cell-cursor.ensures.line) c.loop-cursor.invariant.heap c.soundness-in-Some.ensures.sound in
    record {
      went = went;
      few = let left = went.left in let few = c.requires.few in omega (arith, left, few);
      heap = c.soundness-in-Some.ensures.sound;
    }

pub returns : goal.returns
returns c = record {
  went =
      went_more (so_far c.args.self.now (course.Marking (Some c.args.scan))) (so_far c.loop-cursor.self (scanning c.args.scan.slot c.loop-cursor.cursor)) (so_far c.blacken.new.self (course.Marking None))
      0 c.loop-cursor.steps 0 c.loop-cursor.invariant.went (rw c.in_default.is c.blacken.ensures.line) c.loop-cursor.invariant.heap c.soundness-2.ensures.sound;
}
