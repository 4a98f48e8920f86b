use Rattle.std.proofs.Common.{arith}
use Rattle.tg_slots.specs.declared.colour.Colour.TheVariants.{White}
use Rattle.tg_slots.specs.Inner.Inside.{table}
use Rattle.tg_slots.proofs.InsideLemmas.{count_fits}
use Rattle.tg_slots.proofs.StepLemmas.{entry_within, leaves-give_back}
use Rattle.tg_slots.proofs.slots.Slots.give_back.Goals as goal

pub overflow_add-self : goal.overflow_add-self
overflow_add-self c = let few = count_fits c.self.inside c.self.invariant in omega (arith, few)

pub free-requires : goal.free-requires
free-requires c = entry_within c.self.inside.size c.self.inside.entries.items c.self.inside.free c.self.inside.grey (table c.self.inside) c.self.invariant.shown c.args.id White (rw (← c.self.view_is) at c.requires)

pub invariant_of-self : goal.invariant_of-self
invariant_of-self c = (leaves-give_back c.self.inside c.free.new.self c.args.id c.self.invariant (rw (← c.self.view_is) at c.requires) c.free.ensures).kept

pub returns : goal.returns
returns c = rw (← c.self.view_is) (leaves-give_back c.self.inside c.free.new.self c.args.id c.self.invariant (rw (← c.self.view_is) at c.requires) c.free.ensures).shows
