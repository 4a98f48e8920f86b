use Rattle.std.proofs.Common.{List, ap, refl}
use Rattle.tg_lists.proofs.ColumnsLemmas.{left_changed}
use Rattle.tg_cells.specs.declared.pool.Cell.{Cell}
use Rattle.tg_cells.specs.Inner.Pool.{whole}
use Rattle.tg_cells.proofs.pool.Pool.set_next.Goals as goal

pub returns-then-number-len : goal.returns-then-number-len
returns-then-number-len c =
    rw (← c.self.view_is, c.set_left.ensures)
    (ap (λ (l : List Cell). record { items = l; room = c.self.inside.cells.room })
    (left_changed whole (λ (x : Cell). record x { next = c.args.next }) c.self.inside.cells.items c.args.number c.left.result.now (record c.left.result.now { next = c.args.next }) _ c.left.ensures refl))
