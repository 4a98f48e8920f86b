use Rattle.std.proofs.Common.{◌∙◌, ap}
use Rattle.tg_slots.specs.Promise.Table.{in_slot, slot}
use Rattle.tg_slots.specs.Inner.Inside.{table}
use Rattle.tg_slots.proofs.StepLemmas.{slot_at, text_shown}
use Rattle.tg_slots.proofs.slots.Slots.text.Goals as goal

pub returns : goal.returns
returns c =
    rw (← c.self.view_is)
    (text_shown (slot (table c.self.inside) c.args.id) c.text.result (c.text.ensures ∙ ap (in_slot (λ o. o.text)) (slot_at c.self.inside.size c.self.inside.entries.items c.self.inside.free c.self.inside.grey (table c.self.inside) c.self.invariant.shown c.args.id)))
