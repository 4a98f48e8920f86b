use Rattle.std.proofs.Common.{◌≡◌}
use Rattle.tg_slots.specs.declared.colour.Colour.TheVariants.{White, Black}
use Rattle.tg_slots.specs.Inner.Inside.{table}
use Rattle.tg_slots.specs.Promise.Table.{Has, mark}
use Rattle.tg_slots.proofs.StepLemmas.{black_out, leaves-paint, some_at}
use Rattle.tg_slots.proofs.slots.Slots.whiten.Goals as goal

pub paint-requires : goal.paint-requires
paint-requires c = some_at c.self.inside.size c.self.inside.entries.items c.self.inside.free c.self.inside.grey (table c.self.inside) c.self.invariant.shown c.args.id Black (rw (← c.self.view_is) at c.requires)

pub invariant_of-self : goal.invariant_of-self
invariant_of-self c =
    let black : mark (table c.self.inside) c.args.id ≡ Has Black = rw (← c.self.view_is) at c.requires in
    (leaves-paint c.self.inside c.paint.new.self c.args.id c.self.invariant Black White (rw (← c.self.view_is) at c.requires) (black_out (table c.self.inside) c.args.id c.self.invariant.shown.sound black) c.paint.ensures).kept

pub returns : goal.returns
returns c =
    let black : mark (table c.self.inside) c.args.id ≡ Has Black = rw (← c.self.view_is) at c.requires in
    rw (← c.self.view_is) (leaves-paint c.self.inside c.paint.new.self c.args.id c.self.invariant Black White (rw (← c.self.view_is) at c.requires) (black_out (table c.self.inside) c.args.id c.self.invariant.shown.sound black) c.paint.ensures).shows
