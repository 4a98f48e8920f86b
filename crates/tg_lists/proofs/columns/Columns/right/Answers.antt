use Rattle.std.proofs.Common.{arith}
use Rattle.tg_lists.proofs.ColumnsLemmas.{right_length, right_read}
use Rattle.tg_lists.proofs.columns.Columns.right.Goals as goal

pub index-requires : goal.index-requires
index-requires g c = let within = rw (← c.self.view_is) at c.requires in let same = right_length c.self.inside.left.items c.self.inside.right.items c.self.invariant in omega arith

pub returns : goal.returns
returns g c = rw (← c.self.view_is) (right_read c.self.inside.left.items c.self.inside.right.items c.args.index c.index.result.now c.self.invariant (rw (← c.self.view_is) at c.requires) c.index.ensures)
