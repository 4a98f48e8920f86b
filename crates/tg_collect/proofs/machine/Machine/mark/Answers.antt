use Rattle.std.proofs.Common.{None, Some, ap, arith, sym, ◌∙◌}
use Rattle.tg_collect.specs.declared.machine.Progress.TheVariants as course
use Rattle.tg_collect.specs.Inner.Machine.{so_far}
use Rattle.tg_collect.proofs.CycleLemmas.{as_far, went_from, went_none, went_on, went_one, whole_from}
use Rattle.tg_collect.proofs.LineLemmas.{whole_steps}
use Rattle.tg_collect.proofs.machine.Machine.mark.Goals as goal

pub mark_rest-requires-clause-whole : goal.mark_rest-requires-clause-whole
mark_rest-requires-clause-whole c = whole_steps _ _ _ _ c.start.ensures.line (whole_from c.args.self.now course.Idle (sym c.in-Idle.ensures) c.requires.whole)

pub mark_rest-requires-clause-few : goal.mark_rest-requires-clause-few
mark_rest-requires-clause-few c =
    let is = sym c.in-Idle.ensures in
    let started = went_from c.args.self.now (so_far c.start.new.self (course.Marking None)) course.Idle 0 1 is
    (went_one (so_far c.args.self.now course.Idle) (so_far c.start.new.self (course.Marking None)) 0 (whole_from c.args.self.now course.Idle is c.requires.whole) c.start.ensures.line c.soundness.ensures.sound c.soundness-in-Idle.ensures.sound) in
    let left = started.left in
    let few = c.requires.few in
    omega (arith, left, few)

pub overflow_add-result : goal.overflow_add-result
overflow_add-result c =
    let is = sym c.in-Idle.ensures in
    let started = went_from c.args.self.now (so_far c.start.new.self (course.Marking None)) course.Idle 0 1 is
    (went_one (so_far c.args.self.now course.Idle) (so_far c.start.new.self (course.Marking None)) 0 (whole_from c.args.self.now course.Idle is c.requires.whole) c.start.ensures.line c.soundness.ensures.sound c.soundness-in-Idle.ensures.sound) in
    let left = started.left in
    let rest = c.mark_rest.ensures.went.left in
    let few = c.requires.few in
    omega (arith, left, rest, few)

pub returns-in-Idle : goal.returns-in-Idle
returns-in-Idle c =
    let is = sym c.in-Idle.ensures in
    let started = went_from c.args.self.now (so_far c.start.new.self (course.Marking None)) course.Idle 0 1 is
    (went_one (so_far c.args.self.now course.Idle) (so_far c.start.new.self (course.Marking None)) 0 (whole_from c.args.self.now course.Idle is c.requires.whole) c.start.ensures.line c.soundness.ensures.sound c.soundness-in-Idle.ensures.sound) in
    record { went = went_on c.args.self.now (so_far c.start.new.self (course.Marking None)) (so_far c.mark_rest.new.self (course.Sweeping 0)) 0 1 0 c.mark_rest.result started c.mark_rest.ensures.went }

pub returns-in-Marking-Some : goal.returns-in-Marking-Some
returns-in-Marking-Some c = record {
  went =
      went_on c.args.self.now (so_far c.scan_rest-scanned.new.self (course.Marking None)) (so_far c.mark_rest-in-Marking-Some.new.self (course.Sweeping 0)) 0 c.scan_rest-scanned.result 0 c.mark_rest-in-Marking-Some.result
      (went_from c.args.self.now (so_far c.scan_rest-scanned.new.self (course.Marking None)) (course.Marking (Some c.in-Marking-Some.scan)) 0 c.scan_rest-scanned.result (sym c.in-Marking-Some.ensures ∙ ap course.Marking c.in-Marking-Some.field-0-is) c.scan_rest-scanned.ensures.went) c.mark_rest-in-Marking-Some.ensures.went;
}

pub returns-in-Sweeping : goal.returns-in-Sweeping
returns-in-Sweeping c = record { went = rw (as_far c.args.self.now (course.Sweeping c.in-Sweeping.at) (sym c.in-Sweeping.ensures)) (went_none c.args.self.now c.requires.whole) }
