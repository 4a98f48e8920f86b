use Rattle.std.proofs.Common.{arith}
use Rattle.tg_collect.proofs.StoreLemmas.{unnamed}
use Rattle.tg_collect.proofs.tests.has.Goals as goal

pub returns : goal.returns
returns c = unnamed c.args.machine.now c.args.serial (λ k b. c.loop-id.invariant k (let past = c.loop-id-test.false in let all = c.len-id-end.ensures in omega (arith, b, past, all)))
