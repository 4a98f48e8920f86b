use Rattle.std.proofs.Common.{None, ap, arith, ◌∙◌}
use Rattle.tg_collect.proofs.Common.{Has, at_within, lists_of}
use Rattle.tg_collect.specs.declared.machine.Progress.TheVariants as course
use Rattle.tg_collect.specs.Inner.Machine.{so_far}
use Rattle.tg_collect.proofs.SlotLemmas.{mark_so, not_white, seat_root}
use Rattle.tg_collect.proofs.machine.Machine.white_target.Goals as goal

pub colour-requires : goal.colour-requires
colour-requires c = (seat_root (so_far c.args.self.now (course.Marking None)) c.loop-seat.seat _ c.in-Some.root c.requires.whole (omega arith) c.index.ensures c.in-Some.is).1

pub returns-in-Some-White : goal.returns-in-Some-White
returns-in-Some-White c =
    let m = so_far c.args.self.now (course.Marking None) in (
      c.loop-seat.seat,
      (seat_root m c.loop-seat.seat _ c.in-Some.root c.requires.whole (omega arith) c.index.ensures c.in-Some.is).0,
      mark_so m.heap (lists_of m.roots) c.in-Some.root.slot ∙ c.in-Some-White.ensures ∙ ap Has c.in-Some-White.field-0-is,
      λ l j b t. not_white m l j t (λ r. c.loop-seat.invariant l r b),
    )

pub returns : goal.returns
returns c = λ i t. not_white (so_far c.args.self.now (course.Marking None)) t.0 i t.1 (λ r e. c.loop-seat.invariant t.0 r (let b = at_within c.args.self.now.roots.targets.items t.0 r e in omega (arith, b)) e)
