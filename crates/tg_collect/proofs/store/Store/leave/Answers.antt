use Rattle.tg_collect.proofs.RootLemmas.{acted_left, agent_left}
use Rattle.tg_collect.proofs.store.Store.leave.Goals as goal

pub invariant_of-self : goal.invariant_of-self
invariant_of-self c = (agent_left c.self.inside.machine c.args.seat c.self.invariant c.leave.new.self c.leave.ensures.step).0

pub returns : goal.returns
returns c =
    let done = agent_left c.self.inside.machine c.args.seat c.self.invariant c.leave.new.self c.leave.ensures.step in
    rw (← c.self.view_is) (record { left = done.1; acted = acted_left _ _ c.args.seat done.1 })
