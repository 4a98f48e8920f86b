use Rattle.std.proofs.Common.{arith, refl, true}
use Rattle.tg_collect.proofs.Common.{stored}
use Rattle.tg_collect.specs.declared.machine.Progress.TheVariants as course
use Rattle.tg_collect.specs.Inner.Machine.{so_far}
use Rattle.tg_collect.proofs.CycleLemmas.{less_left, went_more, went_none}
use Rattle.tg_collect.proofs.LineLemmas.{collected, frees_one, sweep_ends, whole_steps}
use Rattle.tg_collect.proofs.machine.Machine.sweep_rest.Goals as goal

pub loop-at-init : goal.loop-at-init
loop-at-init c = record {
  went = went_none (so_far c.args.self.now (course.Sweeping c.args.from)) c.requires.whole;
  few = omega arith;
  heap = c.soundness.ensures.sound;
  size = c.soundness.ensures.size;
}

pub overflow_add-freed : goal.overflow_add-freed
overflow_add-freed c =
    let few = c.loop-at.invariant.went.few in
    let so_far = c.loop-at.invariant.few in
    let one = frees_one c.sweep_slot-next.ensures.line in
    omega (arith, few, so_far, one)

pub loop-at-smaller : goal.loop-at-smaller
loop-at-smaller c =
    less_left (so_far c.loop-at.self (course.Sweeping c.loop-at.at)) (so_far c.sweep_slot-next.new.self (course.Sweeping c.sweep_slot-next.result.0)) c.sweep_slot-next.result.1
    c.loop-at.invariant.went.whole c.sweep_slot-next.ensures.line c.loop-at.invariant.heap c.soundness-in-loop-at.ensures.sound

pub loop-at-preserved : goal.loop-at-preserved
loop-at-preserved c =
    let went = went_more (so_far c.args.self.now (course.Sweeping c.args.from)) (so_far c.loop-at.self (course.Sweeping c.loop-at.at)) (so_far c.sweep_slot-next.new.self (course.Sweeping c.sweep_slot-next.result.0))
    c.loop-at.freed c.loop-at.steps c.sweep_slot-next.result.1 c.loop-at.invariant.went c.sweep_slot-next.ensures.line c.loop-at.invariant.heap c.soundness-in-loop-at.ensures.sound in
    record {
      went = went;
      few = let left = went.left in let few = c.requires.few in omega (arith, left, few);
      heap = c.soundness-in-loop-at.ensures.sound;
      size = c.soundness-in-loop-at.ensures.size;
    }

pub returns-clause-cycled : goal.returns-clause-cycled
returns-clause-cycled c =
    let m = so_far c.loop-at.self (course.Sweeping c.loop-at.at) in
    let past = c.loop-at-test.false in
    let size = c.len.ensures in
    let ends = sweep_ends c.loop-at.self c.loop-at.at (omega (arith, past, size)) in
    record {
      last = stored m;
      before = c.loop-at.steps;
      collecting = c.loop-at.invariant.went.collecting;
      ends = collected m (so_far c.loop-at.self course.Idle) 0 true ends c.loop-at.invariant.heap c.loop-at.invariant.heap c.loop-at.invariant.went.whole;
      count = refl;
    }

pub returns-clause-whole : goal.returns-clause-whole
returns-clause-whole c =
    let m = so_far c.loop-at.self (course.Sweeping c.loop-at.at) in
    let past = c.loop-at-test.false in
    let size = c.len.ensures in
    let ends = sweep_ends c.loop-at.self c.loop-at.at (omega (arith, past, size)) in
    whole_steps m (so_far c.loop-at.self course.Idle) 0 true ends c.loop-at.invariant.went.whole
