use Rattle.std.proofs.Common.{ap, arith, sym, ◌-◌, length}
use Rattle.tg_collect.proofs.SlotLemmas.{other_count, still_within, shaded_more}
use Rattle.tg_collect.proofs.Common.{Machine, drop_all, with_shaded, other_slots}
use Rattle.tg_collect.proofs.machine.Machine.shade_others.Goals as goal

pub loop-left-init : goal.loop-left-init
loop-left-init c =
    let size = other_count c.args.self.now.roots in
    record { from = ap (with_shaded c.args.self.now) (sym (drop_all _ (other_slots c.args.self.now.roots) (omega (arith, size)))); within = omega (arith, size) }

pub shade_other-requires : goal.shade_other-requires
shade_other-requires c =
    let within = c.loop-left.invariant.within in
    let same = ap (λ (m : Machine). length (other_slots m.roots)) c.loop-left.invariant.from in
    record { index = omega (arith, within, same); within = still_within c.args.self.now c.loop-left.self c.loop-left.left c.loop-left.invariant.from c.requires.within }

pub loop-left-preserved : goal.loop-left-preserved
loop-left-preserved c =
    let within = c.loop-left.invariant.within in
    record {
      from = shaded_more c.args.self.now c.loop-left.self c.loop-left.left c.loop-left.invariant.from c.shade_other.new.self (c.loop-left.left - 1) (omega arith) (omega (arith, within)) c.shade_other.ensures.step;
      within = omega (arith, within);
    }
