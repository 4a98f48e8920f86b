use Rattle.std.proofs.Common.{◌∙◌, ap, sym}
use Rattle.tg_slots.specs.Promise.Table.{in_slot}
use Rattle.tg_slots.specs.Inner.Linked.{Linked}
use Rattle.tg_slots.proofs.ShelfLemmas.{past, read_form}
use Rattle.tg_slots.proofs.shelf.Shelf.kind.Goals as goal

pub returns-in-Some : goal.returns-in-Some
returns-in-Some c = rw (← c.self.view_is) (c.kind.ensures ∙ (read_form c.self.inside.slots.items c.args.id c.in-Some.form.now c.in-Some.ensures).kind)

pub returns-in-None : goal.returns-in-None
returns-in-None c = rw (← c.self.view_is) (ap (λ (e : Linked). in_slot (λ o. o.kind) e.occupant) (sym (past c.self.inside.slots.items c.args.id c.in-None.ensures).1))
