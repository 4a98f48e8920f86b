use Rattle.std.proofs.Common.{◌∙◌, ap, sym}
use Rattle.tg_slots.specs.Promise.Table.{in_slot, mark_of, slot}
use Rattle.tg_slots.specs.Inner.Inside.{table}
use Rattle.tg_slots.proofs.StepLemmas.{leaves-set_text, old_text, slot_at}
use Rattle.tg_slots.proofs.slots.Slots.set_text.Goals as goal

pub set_text-requires : goal.set_text-requires
set_text-requires c = λ none. (rw (← c.self.view_is) at c.requires) (ap mark_of (sym (slot_at c.self.inside.size c.self.inside.entries.items c.self.inside.free c.self.inside.grey (table c.self.inside) c.self.invariant.shown c.args.id) ∙ none))

pub invariant_of-self : goal.invariant_of-self
invariant_of-self c = (leaves-set_text c.self.inside c.set_text.new.self c.args.id c.self.invariant c.args.text (rw (← c.self.view_is) at c.requires) c.set_text.ensures.slot).kept

pub returns-clause-slots : goal.returns-clause-slots
returns-clause-slots c =
    rw (← c.self.view_is) (leaves-set_text c.self.inside c.set_text.new.self c.args.id c.self.invariant c.args.text (rw (← c.self.view_is) at c.requires) c.set_text.ensures.slot).shows

pub returns-clause-old : goal.returns-clause-old
returns-clause-old c =
    rw (← c.self.view_is) (old_text (slot (table c.self.inside) c.args.id) c.set_text.result (sym (ap (in_slot (λ o. o.text)) (slot_at c.self.inside.size c.self.inside.entries.items c.self.inside.free c.self.inside.grey (table c.self.inside) c.self.invariant.shown c.args.id)) ∙ c.set_text.ensures.old))
