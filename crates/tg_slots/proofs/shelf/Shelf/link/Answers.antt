use Rattle.tg_slots.proofs.ShelfLemmas.{link_read, past}
use Rattle.tg_slots.proofs.shelf.Shelf.link.Goals as goal

pub returns-then-id-len : goal.returns-then-id-len
returns-then-id-len c = rw (← c.self.view_is) (link_read c.self.inside.slots.items c.args.id c.left.result.now c.left.ensures)

pub returns-else-id-len : goal.returns-else-id-len
returns-else-id-len c = rw (← c.self.view_is) (past c.self.inside.slots.items c.args.id (rw c.len.ensures at c.if-id-len.false)).0
