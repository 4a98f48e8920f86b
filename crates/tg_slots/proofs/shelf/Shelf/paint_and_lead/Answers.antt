use Rattle.std.proofs.Common.{List, ap}
use Rattle.tg_slots.specs.Inner.Linked.{Linked}
use Rattle.tg_slots.proofs.ShelfLemmas.{painted, some_within}
use Rattle.tg_slots.proofs.shelf.Shelf.paint_and_lead.Goals as goal

pub set_left-requires : goal.set_left-requires
set_left-requires c = some_within c.self.inside.slots.items c.args.id (rw (← c.self.view_is) at c.requires)

pub invariant_of-self : goal.invariant_of-self
invariant_of-self c =
    rw (c.set_left.ensures, c.of-tint.ensures) (painted c.self.inside.slots.items c.args.id c.args.colour c.args.next c.self.invariant (rw (← c.self.view_is) at c.requires)).agree

pub returns : goal.returns
returns c =
    rw (← c.self.view_is, c.set_left.ensures, c.of-tint.ensures)
    (ap (λ (l : List Linked). record { items = l; room = c.self.inside.slots.room }) (painted c.self.inside.slots.items c.args.id c.args.colour c.args.next c.self.invariant (rw (← c.self.view_is) at c.requires)).is)
