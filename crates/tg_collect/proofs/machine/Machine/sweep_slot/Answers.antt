use Rattle.std.proofs.Common.{◌∙◌, ap, arith, refl}
use Rattle.tg_slots.specs.Promise.Table.{Has}
use Rattle.tg_collect.proofs.Common.{Black, White, lists_of, skips, whitens}
use Rattle.tg_collect.specs.declared.machine.Progress.TheVariants as course
use Rattle.tg_collect.specs.Inner.Machine.{so_far}
use Rattle.tg_collect.proofs.SlotLemmas.{at_free, at_slot, coloured_so, painted_so, zip_size}
use Rattle.tg_collect.proofs.LineLemmas.{step_of, sweep_dark}
use Rattle.tg_collect.proofs.machine.Machine.sweep_slot.Goals as goal

pub unreachable-requires : goal.unreachable-requires
unreachable-requires c = sweep_dark (so_far c.args.self.now (course.Sweeping c.args.at)) c.args.at refl c.requires.whole (c.in-Some-Grey.ensures ∙ ap Has c.in-Some-Grey.field-0-is)

-- a free slot
pub returns-in-None : goal.returns-in-None
returns-in-None c =
    let m = so_far c.args.self.now (course.Sweeping c.args.at) in
    record { line = step_of m m.heap _ refl refl (skips c.args.at (rw zip_size c.requires.inside) (at_free m.heap (lists_of m.roots) c.args.at c.in-None.ensures)) tt (grind arith) }

-- a black one
pub returns-in-Some-Black : goal.returns-in-Some-Black
returns-in-Some-Black c =
    let m = so_far c.args.self.now (course.Sweeping c.args.at) in
    let o = coloured_so m.heap c.args.at Black (c.in-Some-Black.ensures ∙ ap Has c.in-Some-Black.field-0-is) in
    let is = at_slot m.heap (lists_of m.roots) c.args.at o.0 o.1 in
    record { line = rw c.whiten.ensures (step_of m _ _ refl (painted_so m.heap (lists_of m.roots) c.args.at o.0 White o.1) (whitens c.args.at _ is o.2) tt (grind arith)) }
