use Rattle.std.proofs.Common.{subst, ◌≤◌, arith}
use Rattle.tg_collect.specs.Promise.Stored.{Stored}
use Rattle.tg_collect.specs.Promise.Readings.{slot_count}
use Rattle.tg_collect.specs.Promise.Views.{IsStore}
use Rattle.tg_collect.proofs.SlotLemmas.{zip_size}
use Rattle.tg_collect.proofs.EdgesLemmas.{is_store}
use Rattle.tg_collect.proofs.store.Store.soundness.Goals as goal

pub returns-clause-sound : goal.returns-clause-sound
returns-clause-sound c = subst IsStore c.self.view_is (is_store c.self.inside.machine c.soundness.ensures.sound c.self.invariant)

pub returns-clause-slots : goal.returns-clause-slots
returns-clause-slots c = subst (λ (v : Stored). slot_count v ≤ 65536) c.self.view_is
    (let size = zip_size c.self.inside.machine.heap.table.slots c.self.inside.machine.heap.lists in let few = c.soundness.ensures.size in omega (arith, size, few))

pub returns-clause-cells : goal.returns-clause-cells
returns-clause-cells c = subst (λ (v : Stored). v.cells ≤ 1048576) c.self.view_is c.soundness.ensures.cells
