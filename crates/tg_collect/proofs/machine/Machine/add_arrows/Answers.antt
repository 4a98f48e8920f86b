use Rattle.std.proofs.Common.{◌++◌, ◌∷◌, [], append-nil, append_assoc, arith, ap, length, subst, sym, ◌∙◌, List}
use Rattle.tg_lists.specs.Promise.Membership.{Contains}
use Rattle.tg_lists.proofs.MembershipLemmas.{contains_middle}
use Rattle.tg_cells.specs.Promise.Lists.{Edge}
use Rattle.tg_heap.specs.Promise.Graph.{edges}
use Rattle.tg_heap.specs.Inner.Marking.{remaining}
use Rattle.tg_collect.specs.Inner.Machine.{lists_of}
use Rattle.tg_collect.specs.Inner.Stored.{stored}
use Rattle.tg_collect.proofs.SlotLemmas.{out_all}
use Rattle.tg_collect.proofs.FiguresLemmas.{arrows_more, left_is, name_shown, none_left, turn}
use Rattle.tg_collect.proofs.machine.Machine.add_arrows.Goals as goal

pub serial-requires : goal.serial-requires
serial-requires c =
    let inv = c.loop-cursor.invariant in
    let t = turn c.args.self.now.heap c.args.id c.in-Some-cursor.cell inv.0 inv.1 inv.2 (cc) in
    let at = c.target.ensures c.args.id inv.0 t.edge t.after t.stands in
    let low = c.soundness.ensures.sound.targets c.args.id t.edge (subst (λ (l : List Edge). Contains l t.edge) (sym t.stands.is) (contains_middle inv.0 t.after t.edge)) in
    omega (arith, at, low)

pub loop-cursor-smaller : goal.loop-cursor-smaller
loop-cursor-smaller c =
    let h = c.args.self.now.heap in
    let inv = c.loop-cursor.invariant in
    let t = turn h c.args.id c.in-Some-cursor.cell inv.0 inv.1 inv.2 (cc) in
    let next = ap (λ o. length (remaining o (edges h c.args.id))) (c.next-cursor.ensures c.args.id inv.0 t.edge t.after t.stands) ∙ left_is h c.soundness.ensures.sound c.args.id (inv.0 ++ t.edge ∷ []) t.after t.is in
    let now = ap (λ o. length (remaining o (edges h c.args.id))) inv.3 ∙ left_is h c.soundness.ensures.sound c.args.id inv.0 inv.1 inv.2 in
    let one = ap length t.left in
    omega (arith, next, now, one)

pub loop-cursor-preserved : goal.loop-cursor-preserved
loop-cursor-preserved c =
    let m = c.args.self.now in
    let inv = c.loop-cursor.invariant in
    let t = turn m.heap c.args.id c.in-Some-cursor.cell inv.0 inv.1 inv.2 (cc) in
    let target = c.target.ensures c.args.id inv.0 t.edge t.after t.stands in
    let serial = c.target_serial-to.ensures c.args.id inv.0 t.edge t.after t.stands in
    let label = c.label.ensures c.args.id inv.0 t.edge t.after t.stands in (
      inv.0 ++ t.edge ∷ [],
      t.after,
      t.is,
      c.next-cursor.ensures c.args.id inv.0 t.edge t.after t.stands,
      rw (arrows_more (stored m) c.in-Some.from inv.0 t.edge, ← append_assoc, c.in_ok-add_found.ensures, inv.4, c.then_some.ensures, c.eq-is_there.ensures, c.serial.ensures, name_shown m c.target.result, target, label, serial),
    )

pub returns : goal.returns
returns c =
    let m = c.args.self.now in
    let inv = c.loop-cursor.invariant in
    let left = none_left inv.1 (cc) in
    let all = out_all m.heap (lists_of m.roots) c.soundness.ensures.sound c.args.id ∙ inv.2 ∙ ap (λ (l : List Edge). inv.0 ++ l) left ∙ append-nil inv.0 in
    rw (c.in-Some.is, all) inv.4
