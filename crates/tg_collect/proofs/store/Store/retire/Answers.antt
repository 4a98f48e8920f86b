use Rattle.tg_collect.proofs.RootLemmas.{acted_retired, principal_retired}
use Rattle.tg_collect.proofs.store.Store.retire.Goals as goal

pub invariant_of-self : goal.invariant_of-self
invariant_of-self c = (principal_retired c.self.inside.machine c.args.serial c.self.invariant c.retire.new.self c.retire.ensures.step).0

pub returns : goal.returns
returns c =
    let done = principal_retired c.self.inside.machine c.args.serial c.self.invariant c.retire.new.self c.retire.ensures.step in
    rw (← c.self.view_is) (record { retired = done.1; acted = acted_retired _ _ c.args.serial done.1 })
