use Rattle.std.proofs.Common.{◌+◌, ap, arith, length}
use Rattle.tg_collect.specs.declared.machine.Roots.{Roots}
use Rattle.tg_collect.specs.Inner.Openings.{rank}
use Rattle.tg_collect.proofs.OpeningLemmas.{count_is}
use Rattle.tg_collect.proofs.OpeningEdges.{row_done, rows_done}
use Rattle.tg_collect.proofs.machine.Machine.open_edges.Goals as goal

pub loop-from-preserved : goal.loop-from-preserved
loop-from-preserved c =
    let i = c.loop-to.invariant in
    let count = count_is c.loop-to.self i.opens.opening.count i.opens.opened in
    let same = ap (λ (r : Roots). length r.principals) i.roots in
    record { roots = i.roots; size = i.size; opens = row_done c.loop-to.self c.args.graph.now (rank (c.loop-from.from + 1) (c.loop-to.to + 1)) i.opens c.loop-from.from (omega (arith, count, same)) }

pub returns-clause-opened : goal.returns-clause-opened
returns-clause-opened c =
    let i = c.loop-from.invariant in
    let count = count_is c.loop-from.self i.opens.opening.count i.opens.opened in
    let same = ap (λ (r : Roots). length r.principals) i.roots in
    rows_done c.loop-from.self c.args.graph.now (rank (c.loop-from.from + 1) 1) i.opens _ _ (omega (arith, count, same)) c.soundness.ensures.sound i.size.slots i.size.cells
