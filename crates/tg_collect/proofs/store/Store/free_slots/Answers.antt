use Rattle.std.proofs.Common.{◌∙◌, sym}
use Rattle.tg_collect.specs.Inner.Machine.{lists_of}
use Rattle.tg_collect.proofs.SlotLemmas.{free_so}
use Rattle.tg_collect.proofs.store.Store.free_slots.Goals as goal

pub returns : goal.returns
returns c = rw (← c.self.view_is) (c.free_slots.ensures ∙ sym (free_so c.self.inside.machine.heap (lists_of c.self.inside.machine.roots) c.soundness.ensures.sound))
