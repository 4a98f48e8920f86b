use Rattle.std.proofs.Common.{◌≡◌, length, true, nat_eq, ap, subst, sym, ◌∙◌, arith}
use Rattle.std.proofs.lemmas.Bool.{eqb-true}
use Rattle.tg_share.specs.Promise.Closing.{exchange_count, logs_of}
use Rattle.tg_share.proofs.ClosingLemmas.{closes, handed_on, nothing_left}
use Rattle.tg_share.proofs.session.Shared.close_with_graph.Goals as goal

pub returns-clause-closed : goal.returns-clause-closed
returns-clause-closed g c =
    let locked = c.inner.invariant in
    let all : c.loop-one.yielded ≡ c.args.ended.items = nothing_left c.loop-one.yielded c.loop-one.one-iterator.rest.items c.args.ended.items (sym c.loop-one.one-iterator.rest.ok.0 ∙ c.in-None.ensures.steps.0) c.loop-one.invariant.order in
    let counted : nat_eq c.len-2.result c.inner.inside.given ≡ true → length c.inner.inside.vault.history ≡ exchange_count c.args.ended.items =
    λ is.
    let many : c.len-2.result ≡ c.inner.inside.given = eqb-true _ _ is in
    let whole : c.loop-one.rest.amount ≡ c.inner.inside.entries.total = c.audit.ensures.whole (omega (arith, many, ap length all, c.len-2.ensures, locked.parts, c.requires, c.loop-one.invariant.parts)) in
    sym locked.counted ∙ sym whole ∙ c.loop-one.invariant.amount ∙ ap exchange_count all in
    closes c.args.ended.items c.loop-one.logs.items c.inner.inside.vault c.settle_with_graph-settled.result.0 (nat_eq c.len-2.result c.inner.inside.given) c.courses_have_the_headline.ensures c.agreed_counts.ensures
    (subst (λ es. c.loop-one.logs.items ≡ logs_of es) all c.loop-one.invariant.logs) locked.reached c.settle_with_graph-settled.ensures.settled counted

pub returns-clause-graph : goal.returns-clause-graph
returns-clause-graph g c = handed_on c.inner.inside.vault c.loop-one.logs.items c.settle_with_graph-settled.result.0 c.settle_with_graph-settled.result.2 c.settle_with_graph-settled.ensures.settled c.settle_with_graph-settled.ensures.graph
