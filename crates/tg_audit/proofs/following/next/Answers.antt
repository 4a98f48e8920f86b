use Rattle.std.proofs.Common.{◌≡◌, ◌+◌, length, drop, sym, ◌∙◌, rules, refl, ap, slice_get, Some}
use Rattle.std.proofs.lemmas.Option.{slice_get_read}
use Rattle.tg_audit.specs.declared.logs.Exchange.{Exchange}
use Rattle.tg_audit.specs.Inner.Following.{joined_from}
use Rattle.tg_audit.proofs.FollowingLemmas.{joined_from_next, joined_from_other, joined_from_past}
use Rattle.tg_audit.proofs.following.next.Goals as goal
use Rattle.tg_audit.proofs.following.next.Goals.{then-log-seat+in_default, else-log-seat}

pub returns-in-Some-clause-some : goal.returns-in-Some-clause-some
returns-in-Some-clause-some c =
    let log = c.index-logs-number.result in
    let here : slice_get c.args.logs.now c.loop-number.number ≡ Some log = slice_get_read c.args.logs.now (length c.args.logs.now) c.loop-number.number log refl c.loop-number-test.true c.index-logs-number.is in
    let inner : slice_get c.deref.result.now c.loop-number.at ≡ Some c.in-Some.exchange.now = slice_get_read {X = Exchange} c.deref.result.now (length c.deref.result.now) c.loop-number.at c.in-Some.exchange.now refl (search rules) (search rules) in
    let found : slice_get log.exchanges.items c.loop-number.at ≡ Some c.in-Some.exchange.now = ap (λ xs. slice_get xs c.loop-number.at) (sym c.deref.ensures.value) ∙ inner in
    c.loop-number.invariant ∙ joined_from_next c.args.seat c.loop-number.at c.args.logs.now c.loop-number.number log c.in-Some.exchange.now here c.if-log-seat.true found

pub loop-number-preserved : goal.loop-number-preserved
loop-number-preserved c =
    let log = c.index-logs-number.result in
    let here : slice_get c.args.logs.now c.loop-number.number ≡ Some log = slice_get_read c.args.logs.now (length c.args.logs.now) c.loop-number.number log refl c.loop-number-test.true c.index-logs-number.is in
    c.loop-number.invariant ∙ (elim c.if-log-seat.branch as (λ _. joined_from c.args.seat c.loop-number.at (drop c.loop-number.number c.args.logs.now) ≡ joined_from c.args.seat 0 (drop (c.loop-number.number + 1) c.args.logs.now)) [
      | then-log-seat+in_default w ↦ joined_from_past c.args.seat c.loop-number.at c.args.logs.now c.loop-number.number log here w.if-log-seat.true (search rules)
      | else-log-seat w ↦ joined_from_other c.args.seat c.loop-number.at c.args.logs.now c.loop-number.number log here w.if-log-seat.false
    ])
