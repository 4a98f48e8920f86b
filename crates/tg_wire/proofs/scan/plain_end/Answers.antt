use Rattle.std.proofs.Common.{sym, ap, ◌∙◌, arith}
use lib.Count.{count_trailing_zeros}
use Rattle.tg_wire.proofs.StopsLemmas.{run_bound, run_through, run_stops}
use Rattle.tg_wire.proofs.scan.plain_end.Goals as goal

pub returns-then-found-ne0 : goal.returns-then-found-ne0
returns-then-found-ne0 c =
    let found = c.stops-found in
    let run = run_stops c.args.bytes.now c.loop-at-2.at 16 (omega arith) (omega arith) (omega (arith, found.ensures)) ∙ ap (count_trailing_zeros 64) (sym found.ensures) in
    record {
      value = omega (arith, run, c.loop-at-2.invariant.0);
      bound = omega (arith, run, run_bound c.args.bytes.now c.loop-at-2.at c.loop-at-2.invariant.1);
    }

pub returns-then-found-ne0-2 : goal.returns-then-found-ne0-2
returns-then-found-ne0-2 c =
    let found = c.stops_among_eight-found in
    let run = run_stops c.args.bytes.now c.loop-at-2.at 8 (omega arith) (omega arith) (omega (arith, found.ensures)) ∙ ap (count_trailing_zeros 64) (sym found.ensures) in
    record {
      value = omega (arith, run, c.loop-at-2.invariant.0);
      bound = omega (arith, run, run_bound c.args.bytes.now c.loop-at-2.at c.loop-at-2.invariant.1);
    }

pub returns : goal.returns
returns c =
    let run = run_through c.args.bytes.now c.loop-at-2.at 8 (omega arith) (omega (arith, c.stops_among_eight-found.ensures)) in
    record {
      value = omega (arith, run, c.loop-at-2.invariant.0, c.plain_end_slowly-2.ensures.value);
      bound = c.plain_end_slowly-2.ensures.bound;
    }

pub loop-at-2-preserved : goal.loop-at-2-preserved
loop-at-2-preserved c =
    let run = run_through c.args.bytes.now c.loop-at-2.at 16 (omega arith) (omega (arith, c.stops-found.ensures)) in
    (omega (arith, run, c.loop-at-2.invariant.0), omega arith)

pub loop-at-preserved : goal.loop-at-preserved
loop-at-preserved c =
    let run = run_through c.args.bytes.now c.loop-at.at 64 (omega arith) (c.has_stop.ensures c.if-not-has_stop.true) in
    (omega (arith, run, c.loop-at.invariant.0), omega arith)
