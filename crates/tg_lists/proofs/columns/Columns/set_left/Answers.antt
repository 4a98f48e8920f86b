use Rattle.std.proofs.Common.{List, ap, arith, min, vec_capacity}
use Rattle.tg_lists.proofs.ColumnsLemmas.{left_length, left_set}
use Rattle.tg_lists.proofs.columns.Columns.set_left.Goals as goal

pub index_mut-requires : goal.index_mut-requires
index_mut-requires g c = let within = rw (← c.self.view_is) at c.requires in let same = left_length c.self.inside.left.items c.self.inside.right.items c.self.invariant in omega arith

pub returns : goal.returns
returns g c = rw (← c.self.view_is) (ap (λ (l : List _). record { items = l; room = min (vec_capacity c.self.inside.left) (vec_capacity c.self.inside.right) }) (left_set c.self.inside.left.items c.self.inside.right.items c.args.index c.args.left))
