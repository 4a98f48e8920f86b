use Rattle.tg_slots.specs.declared.colour.Colour.TheVariants.{Grey, Black}
use Rattle.tg_slots.specs.Inner.Inside.{table}
use Rattle.tg_slots.proofs.StepLemmas.{leaves-paint, some_at}
use Rattle.tg_slots.proofs.slots.Slots.blacken.Goals as goal

pub paint-requires : goal.paint-requires
paint-requires c = some_at c.self.inside.size c.self.inside.entries.items c.self.inside.free c.self.inside.grey (table c.self.inside) c.self.invariant.shown c.args.id Grey (rw (← c.self.view_is) at c.requires.grey)

pub invariant_of-self : goal.invariant_of-self
invariant_of-self c =
    (leaves-paint c.self.inside c.paint.new.self c.args.id c.self.invariant Grey Black (rw (← c.self.view_is) at c.requires.grey) (rw (← c.self.view_is) at c.requires.taken) c.paint.ensures).kept

pub returns : goal.returns
returns c =
    rw (← c.self.view_is) (leaves-paint c.self.inside c.paint.new.self c.args.id c.self.invariant Grey Black (rw (← c.self.view_is) at c.requires.grey) (rw (← c.self.view_is) at c.requires.taken) c.paint.ensures).shows
