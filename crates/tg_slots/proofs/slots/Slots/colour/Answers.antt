use Rattle.std.proofs.Common.{◌∙◌, ap}
use Rattle.tg_slots.specs.Promise.Table.{in_slot, slot}
use Rattle.tg_slots.specs.Inner.Inside.{table}
use Rattle.tg_slots.proofs.StepLemmas.{colour_shown, slot_at}
use Rattle.tg_slots.proofs.slots.Slots.colour.Goals as goal

pub returns : goal.returns
returns c = rw (← c.self.view_is, c.colour.ensures ∙ ap (in_slot (λ o. o.colour)) (slot_at c.self.inside.size c.self.inside.entries.items c.self.inside.free c.self.inside.grey (table c.self.inside) c.self.invariant.shown c.args.id)) (colour_shown (slot (table c.self.inside) c.args.id))
