use Rattle.std.proofs.Common.{ap, sym, ◌∙◌}
use Rattle.tg_collect.proofs.SlotLemmas.{seat_contains}
use Rattle.tg_collect.proofs.Common.{other_slots, slot_of}
use Rattle.tg_collect.proofs.machine.Machine.shade_other.Goals as goal

pub shade-requires : goal.shade-requires
shade-requires c = c.requires.within c.in-Some.root.slot (seat_contains (other_slots c.args.self.now.roots) c.args.index c.in-Some.root.slot (sym c.other.ensures ∙ ap slot_of c.in-Some.is))
