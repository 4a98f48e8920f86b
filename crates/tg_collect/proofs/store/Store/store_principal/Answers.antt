use Rattle.std.proofs.Common.{sym}
use Rattle.tg_collect.specs.Inner.Machine.{Whole}
use Rattle.tg_collect.specs.Inner.Stored.{stored}
use Rattle.tg_collect.specs.Promise.Readings.{serial_at}
use Rattle.tg_collect.specs.Promise.Sessions.{PrincipalStored}
use Rattle.tg_collect.proofs.PrincipalLemmas.{acted_principal, principal_stored}
use Rattle.tg_collect.proofs.store.Store.store_principal.Goals as goal

done : (c : goal.After-add_principal) → Whole c.add_principal.new.self × PrincipalStored c.args.self.now (stored c.add_principal.new.self) c.args.seat (serial_at c.args.self.now c.args.id) c.args.serial c.args.text c.args.rights
done c = principal_stored c.self.invariant (rw (sym c.self.view_is) at c.in_ok-store_vertex.ensures.ok) c.requires.seat c.add_principal.new.self c.index.result.now c.in-Some.root c.requires.few c.index.ensures c.in-Some.is c.add_principal.ensures.step

pub invariant_of-self : goal.invariant_of-self
invariant_of-self c = (done c).0

pub returns-clause-ok : goal.returns-clause-ok
returns-clause-ok c = (done c).1

pub returns-clause-acted : goal.returns-clause-acted
returns-clause-acted c = acted_principal _ _ c.args.seat (serial_at c.args.self.now c.args.id) c.args.serial c.args.text c.args.rights (done c).1
