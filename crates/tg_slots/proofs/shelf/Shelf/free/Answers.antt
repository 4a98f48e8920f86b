use Rattle.std.proofs.Common.{List, ap}
use Rattle.tg_slots.specs.Inner.Linked.{Linked}
use Rattle.tg_slots.proofs.ShelfLemmas.{freed}
use Rattle.tg_slots.proofs.shelf.Shelf.free.Goals as goal

pub invariant_of-self : goal.invariant_of-self
invariant_of-self c = rw c.set.ensures (freed c.self.inside.slots.items c.args.id c.args.link c.self.invariant).agree

pub returns : goal.returns
returns c = rw (← c.self.view_is, c.set.ensures) (ap (λ (l : List Linked). record { items = l; room = c.self.inside.slots.room }) (freed c.self.inside.slots.items c.args.id c.args.link c.self.invariant).is)
