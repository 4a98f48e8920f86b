use Rattle.std.proofs.Common.{[], false, subst}
use Rattle.std.proofs.lemmas.Result.{IfOk-weaker}
use Rattle.tg_graph.specs.declared.derivation.Goal.{Goal}
use Rattle.tg_sharing.specs.Promise.Answers.{IsAnswer}
use Rattle.tgdoc.proofs.SharingLemmas.{found_there, never_told, no_from_told, no_serial_told, no_to_told, shared_told}
use Rattle.tgdoc.proofs.sharing.answer_pair.Goals as goal

pub returns-in-Err : goal.returns-in-Err
returns-in-Err c =
    IfOk-weaker c.unshared_told.result _ _
    (λ told tells. no_from_told c.args.vault.now c.args.pair.now c.in_ok-graph.graph c.in_ok-graph.ensures told.text.items told.is_error c.in-Err.unshared c.in-Err.ensures.err c.in-Err.ensures.error tells)
    c.unshared_told.ensures

pub returns-in-Err-vertex_in : goal.returns-in-Err-vertex_in
returns-in-Err-vertex_in c =
    IfOk-weaker c.unshared_told-in-Err-vertex_in.result _ _
    (λ told tells. no_to_told c.args.vault.now c.args.pair.now c.in_ok-graph.graph c.in_ok-graph.ensures told.text.items told.is_error c.in-Ok.from c.in-Err-vertex_in.unshared c.in-Ok.ensures.ok
    c.in-Err-vertex_in.ensures.err c.in-Err-vertex_in.ensures.error tells)
    c.unshared_told-in-Err-vertex_in.ensures

pub returns-in-Never : goal.returns-in-Never
returns-in-Never c =
    IfOk-weaker c.unshared_told-in-Never.result _ _
    (λ told tells. never_told c.args.vault.now c.args.pair.now c.in_ok-graph.graph c.in_ok-graph.ensures told.text.items told.is_error c.in-Ok.from c.in-Ok-vertex_in.to c.in-Ok.ensures.ok c.in-Ok-vertex_in.ensures.ok
    (subst (IsAnswer c.in_ok-graph.graph (record { from = c.in-Ok.from; to = c.in-Ok-vertex_in.to; rights = c.args.pair.now.rights })) c.in-Never.is c.in_ok-can_share.ensures) tells)
    c.unshared_told-in-Never.ensures

pub returns-in-Unknown : goal.returns-in-Unknown
returns-in-Unknown c =
    IfOk-weaker c.unshared_told-in-Unknown.result _ _
    (λ told tells. no_serial_told c.args.vault.now c.args.pair.now c.in_ok-graph.graph c.in_ok-graph.ensures told.text.items told.is_error c.in-Ok.from c.in-Ok-vertex_in.to c.in-Ok.ensures.ok c.in-Ok-vertex_in.ensures.ok
    c.in-Unknown.field-0.items
    (subst (IsAnswer c.in_ok-graph.graph (record { from = c.in-Ok.from; to = c.in-Ok-vertex_in.to; rights = c.args.pair.now.rights })) c.in-Unknown.is c.in_ok-can_share.ensures) tells)
    c.unshared_told-in-Unknown.ensures

pub shown-requires-clause-found : goal.shown-requires-clause-found
shown-requires-clause-found c =
    let asked : Goal = record { from = c.in-Ok.from; to = c.in-Ok-vertex_in.to; rights = c.args.pair.now.rights } in
    found_there c.args.vault.now c.args.pair.now c.in_ok-graph.graph c.in_ok-graph.ensures [] false asked c.in-By.steps.items c.deref.result.now c.deref.ensures.value
    (subst (IsAnswer c.in_ok-graph.graph asked) c.in-By.is c.in_ok-can_share.ensures)

pub returns : goal.returns
returns c =
    shared_told c.args.vault.now c.args.pair.now c.in_ok-graph.graph c.in_ok-graph.ensures c.in_ok-text-in-By.text.items false c.in-Ok.from c.in-Ok-vertex_in.to c.in-Ok.ensures.ok c.in-Ok-vertex_in.ensures.ok
    c.in_ok-text-in-By.ensures
