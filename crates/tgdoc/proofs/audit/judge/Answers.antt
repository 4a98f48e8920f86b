use Rattle.std.proofs.Common.{refl, subst}
use Rattle.tg_audit.specs.Promise.Verdicts.{IsVerdict}
use Rattle.tg_wire.specs.Promise.Lines.{goal_of}
use Rattle.tgdoc.specs.Inner.Auditing.{RefusesBy}
use Rattle.tgdoc.specs.Promise.Audits.{Misreads, OpensGraph, SaysGoal}
use Rattle.tg_talk.specs.Promise.Opening.{RefusesOpening}
use Rattle.tgdoc.proofs.AuditLemmas.{ends_bytes, ends_first, ends_second, ends_third, is_judged, is_read, is_refused, is_unjudged, passed}
use Rattle.tgdoc.proofs.audit.judge.Goals as goal

pub returns-in_err-take_wanted-clause-err : goal.returns-in_err-take_wanted-clause-err
returns-in_err-take_wanted-clause-err g c =
    passed _ c.in_err-take_wanted.field-0.0 _ c.from_residual.ensures.1 (ends_first _ _ _ c.requires.none (ends_bytes RefusesOpening _ _ _ _ _ (λ is. is) c.in_err-take_wanted.ensures.err))

pub returns-in_err-graph-clause-err : goal.returns-in_err-graph-clause-err
returns-in_err-graph-clause-err g c =
    passed _ c.in_err-graph.field-0.0 _ c.from_residual-in_err-graph.ensures.1
    (ends_first _ _ _ c.requires.none (is_refused RefusesOpening c.in_err-graph.field-0.0 c.in_ok-take_wanted.ensures.ok (subst (λ line. RefusesBy RefusesOpening line c.in_err-graph.field-0.0) c.line.ensures c.in_err-graph.ensures.err)))

pub returns-in_err-take_wanted-2-clause-err : goal.returns-in_err-take_wanted-2-clause-err
returns-in_err-take_wanted-2-clause-err g c =
    let opens = is_read (OpensGraph c.in_ok-graph.graph) c.in_ok-take_wanted.ensures.ok (subst (OpensGraph c.in_ok-graph.graph) c.line.ensures c.in_ok-graph.ensures.ok) in
    passed _ c.in_err-take_wanted-2.field-0.0 _ c.from_residual-in_err-take_wanted-2.ensures.1
    (ends_second _ _ _ _ c.in_ok-graph.graph _ c.requires.none c.in_ok-take_wanted.ensures.ok.count opens (ends_bytes (Misreads goal_of) _ _ _ _ _ (λ is. is) c.in_err-take_wanted-2.ensures.err))

pub returns-in_err-goal-clause-err : goal.returns-in_err-goal-clause-err
returns-in_err-goal-clause-err g c =
    let opens = is_read (OpensGraph c.in_ok-graph.graph) c.in_ok-take_wanted.ensures.ok (subst (OpensGraph c.in_ok-graph.graph) c.line.ensures c.in_ok-graph.ensures.ok) in
    passed _ c.in_err-goal.field-0.0 _ c.from_residual-in_err-goal.ensures.1
    (ends_second _ _ _ _ c.in_ok-graph.graph _ c.requires.none c.in_ok-take_wanted.ensures.ok.count opens
    (is_refused (Misreads goal_of) c.in_err-goal.field-0.0 c.in_ok-take_wanted-2.ensures.ok (subst (λ line. RefusesBy (Misreads goal_of) line c.in_err-goal.field-0.0) c.line-2.ensures c.in_err-goal.ensures.err)))

pub returns-in_err-steps-clause-err : goal.returns-in_err-steps-clause-err
returns-in_err-steps-clause-err g c =
    let opens = is_read (OpensGraph c.in_ok-graph.graph) c.in_ok-take_wanted.ensures.ok (subst (OpensGraph c.in_ok-graph.graph) c.line.ensures c.in_ok-graph.ensures.ok) in
    let aims = is_read (SaysGoal c.in_ok-goal.goal) c.in_ok-take_wanted-2.ensures.ok (subst (SaysGoal c.in_ok-goal.goal) c.line-2.ensures c.in_ok-goal.ensures.ok) in
    passed _ c.in_err-steps.field-0.0 _ c.from_residual-in_err-steps.ensures.1
    (ends_third _ _ _ _ _ _ c.in_ok-graph.graph c.in_ok-goal.goal _ c.requires.none c.in_ok-take_wanted.ensures.ok.count c.in_ok-take_wanted-2.ensures.ok.count opens aims c.in_err-steps.ensures.err)

pub returns-in-Ok-clause-ok : goal.returns-in-Ok-clause-ok
returns-in-Ok-clause-ok g c =
    let opens = is_read (OpensGraph c.in_ok-graph.graph) c.in_ok-take_wanted.ensures.ok (subst (OpensGraph c.in_ok-graph.graph) c.line.ensures c.in_ok-graph.ensures.ok) in
    let aims = is_read (SaysGoal c.in_ok-goal.goal) c.in_ok-take_wanted-2.ensures.ok (subst (SaysGoal c.in_ok-goal.goal) c.line-2.ensures c.in_ok-goal.ensures.ok) in
    is_judged _ _ _ _ _ _ _ c.in_ok-graph.graph c.in_ok-goal.goal _ c.in-Ok.verdict c.requires.none c.in_ok-take_wanted.ensures.ok.count c.in_ok-take_wanted-2.ensures.ok.count opens aims c.in_ok-steps.ensures.ok
    (subst (λ steps. IsVerdict c.in_ok-graph.graph steps c.in_ok-goal.goal c.in-Ok.verdict) c.deref.ensures.value c.in-Ok.ensures.verdict)

pub returns-clause-err : goal.returns-clause-err
returns-clause-err g c =
    let opens = is_read (OpensGraph c.in_ok-graph.graph) c.in_ok-take_wanted.ensures.ok (subst (OpensGraph c.in_ok-graph.graph) c.line.ensures c.in_ok-graph.ensures.ok) in
    let aims = is_read (SaysGoal c.in_ok-goal.goal) c.in_ok-take_wanted-2.ensures.ok (subst (SaysGoal c.in_ok-goal.goal) c.line-2.ensures c.in_ok-goal.ensures.ok) in
    is_unjudged _ _ _ _ _ _ _ c.in_ok-graph.graph c.in_ok-goal.goal _ _ c.requires.none c.in_ok-take_wanted.ensures.ok.count c.in_ok-take_wanted-2.ensures.ok.count refl opens aims c.in_ok-steps.ensures.ok
