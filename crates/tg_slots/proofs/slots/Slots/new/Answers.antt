use Rattle.std.proofs.Common.{refl}
use Rattle.tg_slots.proofs.StepLemmas.{leaves-new}
use Rattle.tg_slots.proofs.slots.Slots.new.Goals as goal

pub invariant_of-result : goal.invariant_of-result
invariant_of-result c =
    (leaves-new (record { entries = c.in_ok-entries.entries; free = c.args.count; grey = c.args.count; free_count = c.args.count; size = c.args.count }) c.in_ok-entries.ensures.none refl refl refl c.requires.high c.in_ok-entries.ensures.room).kept

pub returns : goal.returns
returns c =
    (leaves-new (record { entries = c.in_ok-entries.entries; free = c.args.count; grey = c.args.count; free_count = c.args.count; size = c.args.count }) c.in_ok-entries.ensures.none refl refl refl c.requires.high c.in_ok-entries.ensures.room).shows
