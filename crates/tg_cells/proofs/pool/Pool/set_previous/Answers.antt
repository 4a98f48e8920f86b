use Rattle.std.proofs.Common.{List, ap, refl}
use Rattle.tg_lists.proofs.ColumnsLemmas.{right_changed}
use Rattle.tg_cells.specs.declared.pool.Cell.{Cell}
use Rattle.tg_cells.specs.Inner.Pool.{whole}
use Rattle.tg_cells.proofs.pool.Pool.set_previous.Goals as goal

pub returns-then-number-len : goal.returns-then-number-len
returns-then-number-len c =
    rw (← c.self.view_is)
    (ap (λ (l : List Cell). record { items = l; room = c.self.inside.cells.room })
    (right_changed whole (λ (x : Cell). record x { previous = c.args.previous }) c.self.inside.cells.items c.args.number c.right_mut.result.now (record c.right_mut.result.now { previous = c.args.previous }) _ c.right_mut.ensures.value refl))
