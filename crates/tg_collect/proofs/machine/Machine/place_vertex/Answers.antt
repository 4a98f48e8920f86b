use Rattle.std.proofs.Common.{None, get_or-set_same, inl, refl, sym, ◌≡◌, cond}
use Rattle.tg_collect.proofs.machine.Machine.place_vertex.Goals as goal
use Rattle.tg_collect.proofs.machine.Machine.place_vertex.Goals.{then-has_passed, else-has_passed}
use Rattle.tg_collect.proofs.SlotLemmas.{colour_so}
use Rattle.tg_collect.proofs.Common.{set-set, White, new_colour, stored}

pub returns-after-has_passed : goal.returns-after-has_passed
returns-after-has_passed c =
    let m = c.args.self.now in
    let g = c.add_vertex.new.self in
    let i = c.in-Ok.id in
    let free = c.in-Ok.ensures.0 in
    let is = c.in-Ok.ensures.1 in
    let listed = c.soundness.ensures.sound.table.listed_free i (rw free (inl refl)) in
    let colour : cond c.has_passed.result White c.colour_ahead-colour.result ≡ new_colour (stored m).stage i = rw (c.has_passed.ensures, c.colour_ahead-colour.ensures, c.get-progress.ensures) (colour_so m.heap m.progress i) in
    record {
      step = elim c.if-has_passed.branch [
        | then-has_passed w ↦ (g.table.free, free, rw (w.self-is, w.whiten.ensures, is, get_or-set_same m.heap.table.slots i _ None listed.0, set-set, sym colour, w.if-has_passed.true) refl)
        | else-has_passed w ↦ (g.table.free, free, rw (w.self-is, is, sym colour, w.if-has_passed.false) refl)
      ];
    }
