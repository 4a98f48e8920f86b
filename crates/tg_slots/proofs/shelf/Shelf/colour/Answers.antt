use Rattle.std.proofs.Common.{◌∙◌, ap, sym}
use Rattle.tg_slots.specs.Promise.Table.{in_slot}
use Rattle.tg_slots.specs.Inner.Linked.{Linked}
use Rattle.tg_slots.proofs.ShelfLemmas.{colour_read, past}
use Rattle.tg_slots.proofs.shelf.Shelf.colour.Goals as goal

pub returns-then-id-len : goal.returns-then-id-len
returns-then-id-len c = rw (← c.self.view_is) (c.colour.ensures ∙ colour_read c.self.inside.slots.items c.args.id c.left.result.now c.self.invariant c.left.ensures)

pub returns-else-id-len : goal.returns-else-id-len
returns-else-id-len c =
    let past = past c.self.inside.slots.items c.args.id (rw c.len.ensures at c.if-id-len.false) in
    rw (← c.self.view_is) (ap (λ (e : Linked). in_slot (λ o. o.colour) e.occupant) (sym past.1))
