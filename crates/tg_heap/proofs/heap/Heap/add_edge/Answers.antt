use Rattle.std.proofs.Common.{◌∙◌, sym}
use Rattle.tg_cells.specs.Promise.Lists.{HasNone}
use Rattle.tg_heap.specs.Promise.Graph.{edges}
use Rattle.tg_heap.specs.Inner.Graph.{heap_of}
use Rattle.tg_slots.specs.Promise.Table.{slot}
use Rattle.tg_slots.specs.declared.slots.Occupant.{Occupant}
use Rattle.tg_heap.proofs.JoinLemmas.{reads}
use Rattle.tg_heap.proofs.heap.Heap.add_edge.Goals as goal

pub link-requires-clause-none : goal.link-requires-clause-none
link-requires-clause-none c =
    let o = reads (λ (x : Occupant). x.serial) (slot c.self.inside.slots c.args.target) c.unwrap-serial.result (sym c.serial.ensures ∙ c.unwrap-serial.ensures) in
    let none : HasNone (edges (heap_of c.self.inside.slots c.self.inside.cells) c.args.id) o.occupant.serial = (rw (← c.self.view_is) at c.requires.none) o.occupant o.is in
    λ e among is. none e among (is ∙ sym o.here)
