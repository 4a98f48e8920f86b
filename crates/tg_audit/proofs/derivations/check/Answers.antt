use Rattle.std.proofs.Common.{◌≡◌, List, Some, length, refl, slice_get, subst, sym, take}
use Rattle.std.proofs.lemmas.List.{take_all}
use Rattle.std.proofs.lemmas.Option.{MatchOption-at_none, MatchOption-at_some, slice_get_read}
use Rattle.tg_graph.specs.declared.derivation.Step.{Step}
use Rattle.tg_graph.specs.Promise.Derivations.{CarriesOut, Derives}
use Rattle.tg_audit.specs.Inner.Stops.{StopsBy}
use Rattle.tg_audit.specs.Promise.Verdicts.{IsVerdict}
use Rattle.tg_audit.proofs.VerdictLemmas.{can_share, derives_next, end_verdict, stop_verdict}
use Rattle.tg_audit.proofs.derivations.check.Goals as goal

pub returns-in-Some-clause-verdict : goal.returns-in-Some-clause-verdict
returns-in-Some-clause-verdict c =
    let steps = c.args.steps.now in
    let step = c.index-steps-index.result in
    let H = c.loop-index.graph in
    let at : slice_get steps c.loop-index.index ≡ Some step = slice_get_read {X = Step} steps (length steps) c.loop-index.index step refl c.loop-index-test.true c.index-steps-index.is in
    let stops : StopsBy H step c.in-Some.stop = MatchOption-at_some (CarriesOut H step c.carry_out.new.graph) (StopsBy H step) c.in-Some.stop c.in-Some.is c.in_ok-stop.ensures in
    subst (IsVerdict c.args.graph steps c.args.goal) (sym c.verdict_at.ensures)
    (stop_verdict c.args.graph steps c.args.goal c.loop-index.index step H c.in-Some.stop c.loop-index.invariant at stops)

pub loop-index-preserved : goal.loop-index-preserved
loop-index-preserved c =
    let steps = c.args.steps.now in
    let step = c.index-steps-index.result in
    let H = c.loop-index.graph in
    let at : slice_get steps c.loop-index.index ≡ Some step = slice_get_read {X = Step} steps (length steps) c.loop-index.index step refl c.loop-index-test.true c.index-steps-index.is in
    let carried : CarriesOut H step c.carry_out.new.graph = MatchOption-at_none (CarriesOut H step c.carry_out.new.graph) (StopsBy H step) c.in_default.is c.in_ok-stop.ensures in
    derives_next c.args.graph steps c.loop-index.index step H c.carry_out.new.graph at c.loop-index.invariant carried

pub returns-clause-verdict : goal.returns-clause-verdict
returns-clause-verdict c =
    let steps = c.args.steps.now in
    let all : take c.loop-index.index steps ≡ steps = take_all c.loop-index.index steps c.loop-index-test.false in
    let derived : Derives c.args.graph steps c.loop-index.graph = (let D : List Step → Type 0 = λ ss. Derives c.args.graph ss c.loop-index.graph in subst D all c.loop-index.invariant) in
    end_verdict c.args.graph steps c.args.goal c.loop-index.graph c.weigh.result derived c.weigh.ensures

pub returns-clause-shared : goal.returns-clause-shared
returns-clause-shared c = can_share c.args.graph c.args.steps.now c.args.goal c.weigh.result (returns-clause-verdict c)
