use Rattle.tg_collect.specs.Inner.Machine.{Whole}
use Rattle.tg_collect.specs.Inner.Stored.{stored}
use Rattle.tg_collect.specs.Promise.Readings.{serial_at}
use Rattle.tg_collect.specs.Promise.Sessions.{RightsRemoved}
use Rattle.tg_collect.proofs.SeatLemmas.{acted_removed}
use Rattle.tg_collect.proofs.StoreLemmas.{holds, found_edge}
use Rattle.tg_collect.proofs.CallLemmas.{removed}
use Rattle.tg_collect.proofs.store.Store.remove_rights.Goals as goal

pub remove_rights-requires : goal.remove_rights-requires
remove_rights-requires c = record {
  found = found_edge c.self.inside.machine c.args.id c.args.serial c.args.rights c.soundness.ensures.sound c.self.invariant (rw (← c.self.view_is) at c.requires.source) (rw (← c.self.view_is) at c.requires.edge) (rw (← c.self.view_is) at c.requires.has);
}

done : (c : goal.After-soundness-2) → Whole c.remove_rights.new.self × RightsRemoved (stored c.self.inside.machine) (stored c.remove_rights.new.self) (serial_at (stored c.self.inside.machine) c.args.id) c.args.serial c.args.rights
done c =
    let s = c.remove_rights.ensures.step in
    removed c.args.serial c.args.rights c.soundness.ensures.sound c.self.invariant (holds c.self.inside.machine c.args.id (rw (← c.self.view_is) at c.requires.source)) c.remove_rights.new.self s.0 c.soundness-2.ensures.sound s.1 s.2

pub invariant_of-self : goal.invariant_of-self
invariant_of-self c = (done c).0

pub returns : goal.returns
returns c = rw (← c.self.view_is) (record { removed = (done c).1; acted = acted_removed (stored c.self.inside.machine) (stored c.remove_rights.new.self) _ c.args.serial c.args.rights (done c).1 })
