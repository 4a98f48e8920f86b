use Rattle.std.proofs.Common.{◌++◌, ◌∷◌, []}
use Rattle.tg_lists.proofs.MembershipLemmas.{map_append}
use Rattle.tg_collect.proofs.FiguresLemmas.{turn}
use Rattle.tg_collect.proofs.machine.Machine.edge_list.Goals as goal

pub loop-cursor-preserved : goal.loop-cursor-preserved
loop-cursor-preserved c =
    let inv = c.loop-cursor.invariant in
    let t = turn c.args.self.now.heap c.args.id c.in-Some.cell inv.0 inv.1 inv.2 (cc) in
    let serial = c.target_serial.ensures c.args.id inv.0 t.edge t.after t.stands in
    let label = c.label.ensures c.args.id inv.0 t.edge t.after t.stands in (
      inv.0 ++ t.edge ∷ [],
      t.after,
      t.is,
      c.next-cursor.ensures c.args.id inv.0 t.edge t.after t.stands,
      rw (map_append, c.in_ok-push.ensures.items, inv.4, serial, label),
    )
