use Rattle.tg_collect.specs.Inner.Machine.{Whole}
use Rattle.tg_collect.specs.Inner.Stored.{stored}
use Rattle.tg_collect.specs.Promise.Sessions.{Shaded}
use Rattle.tg_collect.proofs.SeatLemmas.{acted_shaded, shade_called}
use Rattle.tg_collect.proofs.store.Store.shade.Goals as goal

done : (c : goal.After-shade) → Whole c.shade.new.self × Shaded (stored c.self.inside.machine) (stored c.shade.new.self) c.args.seat c.shade.result
done c = shade_called c.self.inside.machine c.shade.new.self c.args.seat c.shade.result c.self.invariant c.shade.ensures.step

pub invariant_of-self : goal.invariant_of-self
invariant_of-self c = (done c).0

pub returns : goal.returns
returns c = rw (← c.self.view_is) (record { shaded = (done c).1; acted = acted_shaded (stored c.self.inside.machine) (stored c.shade.new.self) c.args.seat c.shade.result (done c).1 })
