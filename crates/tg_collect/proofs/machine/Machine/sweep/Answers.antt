use Rattle.std.proofs.Common.{arith, refl}
use Rattle.tg_collect.proofs.Common.{finishes}
use Rattle.tg_collect.proofs.LineLemmas.{step_of}
use Rattle.tg_collect.proofs.SlotLemmas.{zip_size}
use Rattle.tg_collect.proofs.machine.Machine.sweep.Goals as goal

pub returns-then-at-len-clause-line : goal.returns-then-at-len-clause-line
returns-then-at-len-clause-line c =
    let m = c.args.self.now in
    rw c.of-self.ensures (step_of m m.heap _ c.requires.at refl (finishes c.args.at (rw zip_size (let past = c.if-at-len.true in let size = c.len.ensures in omega (arith, past, size)))) tt (grind arith))
