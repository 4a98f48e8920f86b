use Rattle.std.proofs.Common.{◌∙◌, ap, length}
use Rattle.tg_slots.specs.Promise.Table.{Table}
use Rattle.tg_slots.proofs.InsideLemmas.{size_is}
use Rattle.tg_slots.proofs.slots.Slots.len.Goals as goal

pub returns : goal.returns
returns c = size_is c.self.inside c.self.invariant ∙ ap (λ (t : Table). length t.slots) c.self.view_is
