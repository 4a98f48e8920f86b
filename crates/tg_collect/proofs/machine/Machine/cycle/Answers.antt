use Rattle.std.proofs.Common.{arith}
use Rattle.tg_collect.specs.declared.machine.Progress.TheVariants as course
use Rattle.tg_collect.proofs.Common.{stored}
use Rattle.tg_collect.specs.Inner.Machine.{so_far}
use Rattle.tg_collect.proofs.CycleLemmas.{few_left, went_round}
use Rattle.tg_collect.proofs.machine.Machine.cycle.Goals as goal

pub mark-at-requires-clause-few : goal.mark-at-requires-clause-few
mark-at-requires-clause-few c = few_left c.args.self.now c.requires.whole c.soundness.ensures.sound c.soundness.ensures.size c.soundness.ensures.cells

pub sweep_rest-swept-requires-clause-few : goal.sweep_rest-swept-requires-clause-few
sweep_rest-swept-requires-clause-few c =
    let left = c.mark-at.ensures.went.left in
    let few = few_left c.args.self.now c.requires.whole c.soundness.ensures.sound c.soundness.ensures.size c.soundness.ensures.cells in
    omega (arith, left, few)

pub overflow_add-result : goal.overflow_add-result
overflow_add-result c =
    let left = c.mark-at.ensures.went.left in
    let rest = c.sweep_rest-swept.ensures.few in
    let few = few_left c.args.self.now c.requires.whole c.soundness.ensures.sound c.soundness.ensures.size c.soundness.ensures.cells in
    omega (arith, left, rest, few)

pub returns-clause-cycled : goal.returns-clause-cycled
returns-clause-cycled c =
    rw c.of-self.ensures (went_round (stored c.args.self.now) (stored (so_far c.mark-at.new.self (course.Sweeping c.mark-at.result.0))) (stored (so_far c.sweep_rest-swept.new.self course.Idle)) c.mark-at.result.1 c.sweep_rest-swept.result.freed c.sweep_rest-swept.result.steps
    c.mark-at.ensures.went.collecting c.sweep_rest-swept.ensures.cycled)
