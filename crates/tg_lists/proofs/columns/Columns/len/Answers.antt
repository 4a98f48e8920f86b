use Rattle.std.proofs.Common.{arith}
use Rattle.tg_lists.proofs.ColumnsLemmas.{left_length}
use Rattle.tg_lists.proofs.columns.Columns.len.Goals as goal

pub returns : goal.returns
returns g c = let said = c.len.ensures in let same = left_length c.self.inside.left.items c.self.inside.right.items c.self.invariant in rw (← c.self.view_is) (omega arith)
