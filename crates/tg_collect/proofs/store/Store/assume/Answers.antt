use Rattle.std.proofs.Common.{sym}
use Rattle.tg_collect.specs.Inner.Machine.{Whole}
use Rattle.tg_collect.specs.Inner.Stored.{stored}
use Rattle.tg_collect.specs.Promise.Readings.{serial_at}
use Rattle.tg_collect.specs.Promise.Sessions.{Assumed}
use Rattle.tg_collect.proofs.CallLemmas.{placed_serial}
use Rattle.tg_collect.proofs.RootLemmas.{acted_assumed, agent_assumed}
use Rattle.tg_collect.proofs.store.Store.assume.Goals as goal

done : (c : goal.After-assume) → Whole c.assume.new.self × Assumed (stored c.self.inside.machine) (stored c.assume.new.self) c.args.seat (serial_at (stored c.self.inside.machine) c.args.id)
done c =
    let m = c.self.inside.machine in
    let here = placed_serial m c.args.id (rw (sym c.self.view_is) at c.requires.held) in
    agent_assumed m c.args.seat _ c.self.invariant c.requires.seat (rw (sym c.self.view_is) at c.requires.idle) here c.assume.new.self (rw (c.root_at-root.ensures, sym c.self.view_is) at c.assume.ensures.step)

pub invariant_of-self : goal.invariant_of-self
invariant_of-self c = (done c).0

pub returns : goal.returns
returns c = rw (← c.self.view_is) (record { assumed = (done c).1; acted = acted_assumed _ _ c.args.seat _ (done c).1 })
