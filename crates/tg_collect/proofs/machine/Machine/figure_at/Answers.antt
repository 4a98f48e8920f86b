use Rattle.std.proofs.Common.{◌≡◌, ap, sym}
use Rattle.tg_slots.specs.Promise.Table.{in_slot}
use Rattle.tg_collect.specs.Promise.Figures.{figure_in}
use Rattle.tg_collect.specs.Inner.Machine.{lists_of}
use Rattle.tg_collect.specs.Inner.Stored.{stored}
use Rattle.tg_collect.proofs.SlotLemmas.{at_free, at_slot, coloured_so}
use Rattle.tg_collect.proofs.machine.Machine.figure_at.Goals as goal

pub returns-in-None : goal.returns-in-None
returns-in-None c = let m = c.args.self.now in ap (figure_in (stored m).stage c.args.id) (sym (at_free m.heap (lists_of m.roots) c.args.id c.in-None.ensures))

pub returns-in-Some : goal.returns-in-Some
returns-in-Some c =
    let m = c.args.self.now in
    let i = c.args.id in
    let o = coloured_so m.heap i c.in-Some.colour c.in-Some.ensures in
    let serial : c.unwrap.result ≡ o.0.serial = cc (c.unwrap.ensures, c.serial.ensures, ap (in_slot (λ q. q.serial)) o.1) in
    let kind : c.unwrap-in-Some.result ≡ o.0.kind = cc (c.unwrap-in-Some.ensures, c.kind.ensures, ap (in_slot (λ q. q.kind)) o.1) in
    rw (at_slot m.heap (lists_of m.roots) i o.0 o.1, o.2, serial, kind, c.keeps.ensures m.heap, c.get.ensures)
