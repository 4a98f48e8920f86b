use Rattle.tg_collect.specs.Inner.Machine.{Whole}
use Rattle.tg_collect.specs.Inner.Stored.{stored}
use Rattle.tg_collect.specs.Promise.Readings.{serial_at}
use Rattle.tg_collect.specs.Promise.Sessions.{TextReplaced}
use Rattle.tg_collect.proofs.SeatLemmas.{acted_text}
use Rattle.tg_collect.proofs.StoreLemmas.{holds, placed_mark}
use Rattle.tg_collect.proofs.CallLemmas.{text_set}
use Rattle.tg_collect.proofs.store.Store.set_text.Goals as goal

pub set_text-requires : goal.set_text-requires
set_text-requires c = record { held = placed_mark c.self.inside.machine c.args.id (rw (← c.self.view_is) at c.requires) }

done : (c : goal.After-set_text) → Whole c.set_text.new.self × TextReplaced (stored c.self.inside.machine) (stored c.set_text.new.self) (serial_at (stored c.self.inside.machine) c.args.id) c.args.text c.set_text.result
done c = text_set c.self.invariant (holds c.self.inside.machine c.args.id (rw (← c.self.view_is) at c.requires)) c.args.text c.set_text.new.self c.set_text.result c.set_text.ensures.step

pub invariant_of-self : goal.invariant_of-self
invariant_of-self c = (done c).0

pub returns : goal.returns
returns c = rw (← c.self.view_is) (record { replaced = (done c).1; acted = acted_text (stored c.self.inside.machine) (stored c.set_text.new.self) _ c.args.text c.set_text.result (done c).1 })
