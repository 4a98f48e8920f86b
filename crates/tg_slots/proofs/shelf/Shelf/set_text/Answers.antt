use Rattle.std.proofs.Common.{◌∙◌, List, ap}
use Rattle.tg_slots.specs.Inner.Linked.{Linked}
use Rattle.tg_slots.proofs.ShelfLemmas.{some_within, tells}
use Rattle.tg_slots.proofs.shelf.Shelf.set_text.Goals as goal

pub right_mut-requires : goal.right_mut-requires
right_mut-requires c = some_within c.self.inside.slots.items c.args.id (rw (← c.self.view_is) at c.requires)

pub set_text-requires : goal.set_text-requires
set_text-requires c = (tells c.self.inside.slots.items c.args.id c.args.new c.right_mut.result.now c.self.invariant (rw (← c.self.view_is) at c.requires) c.right_mut.ensures.value).taken

pub invariant_of-self : goal.invariant_of-self
invariant_of-self c =
    rw c.set_text.ensures.form (tells c.self.inside.slots.items c.args.id c.args.new c.right_mut.result.now c.self.invariant (rw (← c.self.view_is) at c.requires) c.right_mut.ensures.value).becomes.agree

pub returns-clause-slot : goal.returns-clause-slot
returns-clause-slot c =
    rw (← c.self.view_is, c.set_text.ensures.form)
    (ap (λ (l : List Linked). record { items = l; room = c.self.inside.slots.room }) (tells c.self.inside.slots.items c.args.id c.args.new c.right_mut.result.now c.self.invariant (rw (← c.self.view_is) at c.requires) c.right_mut.ensures.value).becomes.is)

pub returns-clause-old : goal.returns-clause-old
returns-clause-old c =
    rw (← c.self.view_is) ((tells c.self.inside.slots.items c.args.id c.args.new c.right_mut.result.now c.self.invariant (rw (← c.self.view_is) at c.requires) c.right_mut.ensures.value).text ∙ c.set_text.ensures.old)
