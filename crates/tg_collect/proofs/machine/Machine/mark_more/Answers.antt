use Rattle.std.proofs.Common.{None, Some, arith, subst}
use Rattle.tg_collect.specs.declared.machine.Progress.TheVariants as course
use Rattle.tg_collect.specs.Inner.Machine.{NoneWhite, so_far}
use Rattle.tg_collect.proofs.CycleLemmas.{went_one, went_on}
use Rattle.tg_collect.proofs.LineLemmas.{sweep_begins, whole_steps}
use Rattle.tg_collect.proofs.machine.Machine.mark_more.Goals as goal

pub scan_rest-requires-clause-whole : goal.scan_rest-requires-clause-whole
scan_rest-requires-clause-whole c = whole_steps (so_far c.args.self.now (course.Marking None)) _ _ _ c.in-Some.ensures.line c.requires.whole

pub scan_rest-requires-clause-few : goal.scan_rest-requires-clause-few
scan_rest-requires-clause-few c =
    let taken = went_one (so_far c.args.self.now (course.Marking None)) (so_far c.take_grey.new.self (course.Marking (Some c.in-Some.scan))) 0 c.requires.whole c.in-Some.ensures.line c.soundness.ensures.sound c.soundness-in-Some.ensures.sound in
    let left = taken.left in
    let few = c.requires.few in
    omega (arith, left, few)

pub overflow_add-result : goal.overflow_add-result
overflow_add-result c =
    let taken = went_one (so_far c.args.self.now (course.Marking None)) (so_far c.take_grey.new.self (course.Marking (Some c.in-Some.scan))) 0 c.requires.whole c.in-Some.ensures.line c.soundness.ensures.sound c.soundness-in-Some.ensures.sound in
    let left = taken.left in
    let scanned = c.scan_rest.ensures.went.left in
    let few = c.requires.few in
    omega (arith, left, scanned, few)

pub returns-in-Some-clause-went : goal.returns-in-Some-clause-went
returns-in-Some-clause-went c =
    let taken = went_one (so_far c.args.self.now (course.Marking None)) (so_far c.take_grey.new.self (course.Marking (Some c.in-Some.scan))) 0 c.requires.whole c.in-Some.ensures.line c.soundness.ensures.sound c.soundness-in-Some.ensures.sound in
    (omega arith, went_on (so_far c.args.self.now (course.Marking None)) _ _ 0 1 0 c.scan_rest.result taken c.scan_rest.ensures.went)

pub returns-then-shade_pending-clause-went : goal.returns-then-shade_pending-clause-went
returns-then-shade_pending-clause-went c = (
  omega arith,
  went_one (so_far c.args.self.now (course.Marking None)) (so_far c.shade_pending.new.self (course.Marking None)) 0 c.requires.whole
      (rw (← c.in-None.ensures.none.1) (rw c.if-shade_pending.true at c.shade_pending.ensures.line)) c.soundness.ensures.sound c.soundness-then-shade_pending.ensures.sound,
)

pub returns-else-shade_pending-clause-line : goal.returns-else-shade_pending-clause-line
returns-else-shade_pending-clause-line c =
    let same = c.in-None.ensures.none.1 in
    let quiet = rw c.if-shade_pending.false at c.shade_pending.ensures.none in
    rw (quiet.1, same) (sweep_begins c.args.self.now c.in-None.ensures.none.0 (subst NoneWhite same quiet.0))
