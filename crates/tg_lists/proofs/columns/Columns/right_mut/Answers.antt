use Rattle.std.proofs.Common.{List, ap, arith, min, refl, vec_capacity}
use Rattle.tg_lists.proofs.ColumnsLemmas.{right_length, right_read, right_set}
use Rattle.tg_lists.proofs.columns.Columns.right_mut.Goals as goal

pub index_mut-requires : goal.index_mut-requires
index_mut-requires g c = let within = rw (← c.self.view_is) at c.requires in let same = right_length c.self.inside.left.items c.self.inside.right.items c.self.invariant in omega arith

pub returns : goal.returns
returns g c = rw (← c.self.view_is) (
  (refl, λ w. ap (λ (l : List _). record { items = l; room = min (vec_capacity c.self.inside.left) (vec_capacity c.self.inside.right) }) (right_set c.self.inside.left.items c.self.inside.right.items c.args.index w)),
  record { writes_back = tt; value = right_read c.self.inside.left.items c.self.inside.right.items c.args.index c.index_mut.result.now c.self.invariant (rw (← c.self.view_is) at c.requires) c.index_mut.ensures.value },
)
