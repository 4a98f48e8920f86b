use Rattle.tg_slots.proofs.ShelfLemmas.{filled_next, filled_slot}
use Rattle.tg_slots.proofs.shelf.Shelf.fill.Goals as goal

pub invariant_of-self : goal.invariant_of-self
invariant_of-self c = rw (c.set.ensures, c.of-tint.ensures) (filled_slot c.self.inside.slots.items c.args.id c.args.occupant c.self.invariant (rw c.len.ensures at c.if-id-len.true)).agree

pub returns-then-id-len-clause-items : goal.returns-then-id-len-clause-items
returns-then-id-len-clause-items c = rw (← c.self.view_is, c.set.ensures, c.of-tint.ensures) (filled_slot c.self.inside.slots.items c.args.id c.args.occupant c.self.invariant (rw c.len.ensures at c.if-id-len.true)).is

pub invariant_of-self-else-id-len : goal.invariant_of-self-else-id-len
invariant_of-self-else-id-len c = rw (c.push.ensures.items, c.of-tint.ensures) (filled_next c.self.inside.slots.items c.args.id c.args.occupant c.self.invariant (rw c.len.ensures at c.if-id-len.false)).agree

pub returns-else-id-len-clause-items : goal.returns-else-id-len-clause-items
returns-else-id-len-clause-items c = rw (← c.self.view_is, c.push.ensures.items, c.of-tint.ensures) (filled_next c.self.inside.slots.items c.args.id c.args.occupant c.self.invariant (rw c.len.ensures at c.if-id-len.false)).is
