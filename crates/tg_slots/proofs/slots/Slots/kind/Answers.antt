use Rattle.std.proofs.Common.{◌∙◌, ap}
use Rattle.tg_slots.specs.Promise.Table.{in_slot}
use Rattle.tg_slots.specs.Inner.Inside.{table}
use Rattle.tg_slots.proofs.StepLemmas.{slot_at}
use Rattle.tg_slots.proofs.slots.Slots.kind.Goals as goal

pub returns : goal.returns
returns c = rw (← c.self.view_is) (c.kind.ensures ∙ ap (in_slot (λ o. o.kind)) (slot_at c.self.inside.size c.self.inside.entries.items c.self.inside.free c.self.inside.grey (table c.self.inside) c.self.invariant.shown c.args.id))
