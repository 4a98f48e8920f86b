use Rattle.tg_slots.specs.declared.colour.Colour.TheVariants.{White}
use Rattle.tg_slots.specs.Inner.Inside.{table}
use Rattle.tg_slots.proofs.StepLemmas.{leaves-push_grey, some_at}
use Rattle.tg_slots.proofs.slots.Slots.push_grey.Goals as goal

pub paint_and_lead-requires : goal.paint_and_lead-requires
paint_and_lead-requires c = some_at c.self.inside.size c.self.inside.entries.items c.self.inside.free c.self.inside.grey (table c.self.inside) c.self.invariant.shown c.args.id White (rw (← c.self.view_is) at c.requires)

pub invariant_of-self : goal.invariant_of-self
invariant_of-self c = (leaves-push_grey c.self.inside c.paint_and_lead.new.self c.args.id c.self.invariant (rw (← c.self.view_is) at c.requires) c.paint_and_lead.ensures).kept

pub returns : goal.returns
returns c = rw (← c.self.view_is) (leaves-push_grey c.self.inside c.paint_and_lead.new.self c.args.id c.self.invariant (rw (← c.self.view_is) at c.requires) c.paint_and_lead.ensures).shows
