use Rattle.std.proofs.Common.{None, arith}
use Rattle.tg_collect.specs.declared.machine.Progress.TheVariants as course
use Rattle.tg_collect.specs.Inner.Machine.{so_far}
use Rattle.tg_collect.proofs.CycleLemmas.{went_more, went_none, went_on}
use Rattle.tg_collect.proofs.machine.Machine.mark_rest.Goals as goal

pub loop-more-init : goal.loop-more-init
loop-more-init c = record { went = went_none (so_far c.args.self.now (course.Marking None)) c.requires.whole; few = omega arith }

pub loop-more-preserved : goal.loop-more-preserved
loop-more-preserved c =
    let went = went_on (so_far c.args.self.now (course.Marking None)) (so_far c.loop-more.self (course.Marking None)) (so_far c.mark_more.new.self (course.Marking None)) 0 c.loop-more.steps 0 c.in-Some.more
    c.loop-more.invariant.went c.in-Some.ensures.went.1 in
    record { went = went; few = let left = went.left in let few = c.requires.few in omega (arith, left, few) }

pub returns : goal.returns
returns c = record {
  went =
      went_more (so_far c.args.self.now (course.Marking None)) (so_far c.loop-more.self (course.Marking None)) (so_far c.mark_more.new.self (course.Sweeping 0)) 0 c.loop-more.steps 0
      c.loop-more.invariant.went c.in_default.ensures.line c.mark_more.ensures.heap c.soundness.ensures.sound;
}
