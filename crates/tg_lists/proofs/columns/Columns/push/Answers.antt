use Rattle.std.proofs.Common.{vec_capacity}
use Rattle.tg_lists.proofs.ColumnsLemmas.{appended, both_room, left_length, room_grows}
use Rattle.tg_lists.proofs.columns.Columns.push.Goals as goal

pub append-requires : goal.append-requires
append-requires g c =
    let room = rw (← c.self.view_is, left_length c.self.inside.left.items c.self.inside.right.items c.self.invariant) at c.requires in
    (both_room _ _ (vec_capacity c.self.inside.left) (vec_capacity c.self.inside.right) c.self.invariant room).0

pub append-requires-2 : goal.append-requires-2
append-requires-2 g c =
    let room = rw (← c.self.view_is, left_length c.self.inside.left.items c.self.inside.right.items c.self.invariant) at c.requires in
    (both_room _ _ (vec_capacity c.self.inside.left) (vec_capacity c.self.inside.right) c.self.invariant room).1

pub returns-clause-items : goal.returns-clause-items
returns-clause-items g c =
    rw (← c.self.view_is, c.append.ensures.items, c.append-2.ensures.items) (appended c.self.inside.left.items c.self.inside.right.items c.args.left c.args.right c.self.invariant)

pub returns-clause-room : goal.returns-clause-room
returns-clause-room g c = rw (← c.self.view_is) (room_grows _ _ _ _ c.append.ensures.room c.append-2.ensures.room)
