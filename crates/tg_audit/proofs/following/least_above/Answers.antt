use Rattle.std.proofs.Common.{◌≡◌, ◌∙◌, ◌+◌, ◌++◌, [], ◌∷◌, suc, ap, sym, arith, length, refl, slice_get, Some, subst, take}
use Rattle.std.proofs.lemmas.List.{take_all}
use Rattle.std.proofs.lemmas.Option.{slice_get_read}
use Rattle.tg_audit.specs.declared.logs.SeatLog.{SeatLog}
use Rattle.tg_audit.specs.Inner.Following.{IsLeastAbove}
use Rattle.tg_audit.proofs.AboveLemmas.{take_next}
use Rattle.tg_audit.proofs.following.least_above.Goals as goal

pub loop-log-preserved : goal.loop-log-preserved
loop-log-preserved c =
    let logs = c.args.logs.now in
    let n = c.loop-log.log-index in
    let log = c.log-item.result in
    let at : slice_get logs n ≡ Some log = slice_get_read {X = SeatLog} logs (length logs) n log refl c.loop-log-test.true c.log-item.is in
    let next : suc n ≡ n + 1 = omega arith in
    let more : take n logs ++ log ∷ [] ≡ take (n + 1) logs = sym (take_next {X = SeatLog} logs n log at) ∙ ap (λ k. take k logs) next in
    subst (λ ls. IsLeastAbove ls c.least_with-least.result) more (c.least_with-least.ensures (take n logs) c.loop-log.invariant)

pub returns : goal.returns
returns c = subst (λ ls. IsLeastAbove ls c.loop-log.least) (take_all c.loop-log.log-index c.args.logs.now c.loop-log-test.false) c.loop-log.invariant
