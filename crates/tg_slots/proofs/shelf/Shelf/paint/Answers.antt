use Rattle.std.proofs.Common.{List, ap}
use Rattle.tg_slots.specs.Inner.Linked.{Linked}
use Rattle.tg_slots.proofs.ShelfLemmas.{link_read, painted, some_within}
use Rattle.tg_slots.proofs.shelf.Shelf.paint.Goals as goal

pub left-requires : goal.left-requires
left-requires c = some_within c.self.inside.slots.items c.args.id (rw (← c.self.view_is) at c.requires)

pub set_left-requires : goal.set_left-requires
set_left-requires c = some_within c.self.inside.slots.items c.args.id (rw (← c.self.view_is) at c.requires)

pub invariant_of-self : goal.invariant_of-self
invariant_of-self c =
    rw (c.set_left.ensures, c.of-tint.ensures) (painted c.self.inside.slots.items c.args.id c.args.colour c.left.result.now.link c.self.invariant (rw (← c.self.view_is) at c.requires)).agree

pub returns : goal.returns
returns c =
    rw (← c.self.view_is, c.set_left.ensures, c.of-tint.ensures, ← (link_read c.self.inside.slots.items c.args.id c.left.result.now c.left.ensures).1)
    (ap (λ (l : List Linked). record { items = l; room = c.self.inside.slots.room }) (painted c.self.inside.slots.items c.args.id c.args.colour c.left.result.now.link c.self.invariant (rw (← c.self.view_is) at c.requires)).is)
