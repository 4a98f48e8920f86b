use Rattle.std.proofs.Common.{◌∙◌, ap, length}
use Rattle.tg_slots.specs.Promise.Table.{Table}
use Rattle.tg_slots.proofs.FreshLemmas.{nones_length}
use Rattle.tg_collect.proofs.OpeningLemmas.{blank_first}
use Rattle.tg_collect.proofs.machine.Machine.blank.Goals as goal

pub returns-clause-first : goal.returns-clause-first
returns-clause-first c = blank_first _ c.args.slots c.in_ok-heap.ensures.empty.0 c.of-progress.ensures
    (λ i. record { targets = c.in_ok-empty_seats.ensures i; principals = c.in_ok-new.ensures i; agents = c.in_ok-empty_seats-2.ensures i })

pub returns-clause-slots : goal.returns-clause-slots
returns-clause-slots c = ap (λ (t : Table). length t.slots) c.in_ok-heap.ensures.empty.0 ∙ nones_length c.args.slots
