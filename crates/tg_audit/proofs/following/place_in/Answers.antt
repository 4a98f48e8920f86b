use Rattle.std.proofs.Common.{None, Some, arith, below_more}
use Rattle.tg_audit.specs.Promise.Settling.{Agrees, exchanges_of}
use Rattle.tg_audit.proofs.TableLemmas.{follows_here, place_above}
use Rattle.tg_audit.proofs.following.place_in.Goals as goal

pub returns-in-Some : goal.returns-in-Some
returns-in-Some c =
    let v = c.args.vault.now in
    let seat = c.loop-seat.seat in
    record { before = c.loop-seat.invariant; here = c.in-Some.ensures.some (exchanges_of seat v.opening v.history) (follows_here v c.args.logs.now c.args.table.now seat c.requires.whole c.requires.follows c.loop-seat-test.true) }

pub loop-seat-preserved : goal.loop-seat-preserved
loop-seat-preserved c =
    let v = c.args.vault.now in
    let seat = c.loop-seat.seat in
    below_more (Agrees v c.args.logs.now) seat c.loop-seat.invariant (c.in_default.ensures.none (exchanges_of seat v.opening v.history) (follows_here v c.args.logs.now c.args.table.now seat c.requires.whole c.requires.follows c.loop-seat-test.true))

pub returns-in-None : goal.returns-in-None
returns-in-None c = place_above c.args.vault.now c.args.logs.now None c.soundness.ensures.vault.sat (λ k lt. c.loop-seat.invariant k (omega (arith, lt))) c.in-None.ensures

pub returns-in-Some-least_above : goal.returns-in-Some-least_above
returns-in-Some-least_above c =
    place_above c.args.vault.now c.args.logs.now (Some c.in-Some-least_above.above) c.soundness.ensures.vault.sat (λ k lt. c.loop-seat.invariant k (omega (arith, lt))) c.in-Some-least_above.ensures
