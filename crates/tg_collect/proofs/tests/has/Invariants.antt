use Rattle.std.proofs.Common.{◌≢◌, ℕ, ◌<◌, Some}
use Rattle.tg_slots.specs.Promise.Table.{slot, in_slot}
use Rattle.tg_collect.proofs.tests.has.Given as goal

-- None of the slots so far has the serial.
abbrev pub invariant-loop-id : goal.invariant-loop-id
invariant-loop-id l = (k : ℕ) → k < l.id → in_slot (λ o. o.serial) (slot l.machine.heap.table k) ≢ Some l.serial
