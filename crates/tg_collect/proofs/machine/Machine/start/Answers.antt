use Rattle.std.proofs.Common.{inr, refl}
use Rattle.tg_collect.proofs.Common.{other_slots, starts, lists_of}
use Rattle.tg_collect.specs.declared.machine.Progress.TheVariants as course
use Rattle.tg_collect.specs.Inner.Machine.{so_far}
use Rattle.tg_collect.proofs.SlotLemmas.{root_within, all_so}
use Rattle.tg_collect.proofs.LineLemmas.{shaded_counts, step_of}
use Rattle.tg_collect.proofs.machine.Machine.start.Goals as goal

pub shade_others-requires : goal.shade_others-requires
shade_others-requires c = record { within = λ i h. root_within (so_far c.args.self.now course.Idle) i c.requires.whole (inr h) }

pub returns : goal.returns
returns c =
    let m = so_far c.args.self.now course.Idle in
    let others = other_slots m.roots in
    record { line = rw c.shade_others.ensures.step (step_of m _ _ refl (all_so m.heap (lists_of m.roots) others) starts tt (shaded_counts m.heap others)) }
