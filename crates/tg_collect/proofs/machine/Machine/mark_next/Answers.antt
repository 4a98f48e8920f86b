use Rattle.std.proofs.Common.{subst}
use Rattle.tg_collect.specs.Inner.Machine.{NoneWhite}
use Rattle.tg_collect.proofs.LineLemmas.{sweep_begins}
use Rattle.tg_collect.proofs.machine.Machine.mark_next.Goals as goal

pub returns-in-None-2 : goal.returns-in-None-2
returns-in-None-2 c =
    let same = c.in-None.ensures.none.1 in
    let quiet = rw c.if-shade_pending.false at c.shade_pending.ensures.none in
    record { line = rw (quiet.1, same) (sweep_begins c.args.self.now c.in-None.ensures.none.0 (subst NoneWhite same quiet.0)) }
