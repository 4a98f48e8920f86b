use Rattle.std.proofs.Common.{ap, ◌∙◌, inr, arith}
use Rattle.tg_collect.proofs.Common.{get_or-map, root_serial}
use Rattle.tg_collect.proofs.SlotLemmas.{at_seat, seat_contains}
use Rattle.tg_collect.proofs.StoreLemmas.{named_so}
use Rattle.tg_collect.proofs.store.Store.agent.Goals as goal

pub returns-in-Some : goal.returns-in-Some
returns-in-Some c =
    let m = c.self.inside.machine in
    let size = c.self.invariant.roots.agents in
    let here = at_seat m.roots.agents.items c.args.seat c.index.result.now c.in-Some.root (omega (arith, size, c.requires)) c.index.ensures c.in-Some.is in
    rw (← c.self.view_is) (get_or-map (λ r. root_serial r) m.roots.agents.items c.args.seat _ ∙ ap root_serial here, named_so m c.self.invariant c.in-Some.root (inr (inr (seat_contains m.roots.agents.items c.args.seat c.in-Some.root here))))
