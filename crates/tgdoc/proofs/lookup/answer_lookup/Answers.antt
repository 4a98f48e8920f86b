use Rattle.std.proofs.Common.{◌≡◌, ◌↔◌, ◌∙◌, sym, subst}
use Rattle.std.proofs.lemmas.Result.{IfOk-weaker}
use Rattle.tg_lists.specs.Promise.Membership.{Contains}
use Rattle.tg_graph.specs.Promise.Derivations.{CanShare}
use Rattle.tg_graph.specs.Promise.Protection.{IsVertex}
use Rattle.tg_sharing.specs.Promise.Lookups.{IsListing, present}
use Rattle.tg_sharing.specs.declared.lookup.Listing.{Listing}
use Rattle.tgdoc.specs.Promise.Lookups.{TakesMore, goal_with}
use Rattle.tgdoc.proofs.SharingLemmas.{could_told, no_rights_told, nobody_told, runs_out_told, too_much_told}
use Rattle.tgdoc.proofs.lookup.answer_lookup.Goals as goal

pub returns-in-Err : goal.returns-in-Err
returns-in-Err c =
    IfOk-weaker c.unshared_told.result _ _
    (λ told tells. nobody_told c.in_ok-graph.graph _ c.in_ok-graph.ensures c.args.lookup.now told.text.items told.is_error c.in-Err.unshared c.in-Err.ensures.err c.in-Err.ensures.error tells) c.unshared_told.ensures

pub returns-then-is_empty : goal.returns-then-is_empty
returns-then-is_empty c =
    IfOk-weaker c.unshared_told-then-is_empty.result _ _
    (λ told tells. no_rights_told c.in_ok-graph.graph _ c.in_ok-graph.ensures c.args.lookup.now told.text.items told.is_error (sym c.is_empty.ensures ∙ c.if-is_empty.true) tells) c.unshared_told-then-is_empty.ensures

pub returns-in-All : goal.returns-in-All
returns-in-All c =
    let G = c.in_ok-graph.graph in
    let q = c.args.lookup.now in
    let x = c.in-Ok.vertex in
    IfOk-weaker c.listed.result _ _
    (λ told is. could_told G _ c.in_ok-graph.ensures q told.text.items told.is_error x c.deref.result.now c.in-Ok.ensures.ok
    (λ v β. subst (λ found. (Contains found (v, β)) ↔ (IsVertex G v × CanShare G (goal_with q.end q.rights x v) × (β ≡ present G (goal_with q.end q.rights x v)))) (sym c.deref.ensures.value)
    (subst (IsListing G (goal_with q.end q.rights x) (TakesMore q.end G q.most)) c.in-All.is c.in_ok-could.ensures v β)) is)
    c.listed.ensures

pub returns-in-TooMuch : goal.returns-in-TooMuch
returns-in-TooMuch c =
    let G = c.in_ok-graph.graph in
    let q = c.args.lookup.now in
    IfOk-weaker c.unshared_told-in-TooMuch.result _ _
    (λ told tells. too_much_told G _ c.in_ok-graph.ensures q told.text.items told.is_error
    (subst (IsListing G (goal_with q.end q.rights c.in-Ok.vertex) (TakesMore q.end G q.most)) c.in-TooMuch.is c.in_ok-could.ensures) tells)
    c.unshared_told-in-TooMuch.ensures

pub returns : goal.returns
returns c =
    let G = c.in_ok-graph.graph in
    let q = c.args.lookup.now in
    IfOk-weaker c.unshared_told-in-Unknown.result _ _
    (λ told tells. runs_out_told G _ c.in_ok-graph.ensures q told.text.items told.is_error
    (subst (IsListing G (goal_with q.end q.rights c.in-Ok.vertex) (TakesMore q.end G q.most)) c.in-Unknown.is c.in_ok-could.ensures) tells)
    c.unshared_told-in-Unknown.ensures
