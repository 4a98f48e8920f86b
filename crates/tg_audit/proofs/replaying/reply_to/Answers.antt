use Rattle.std.proofs.Common.{◌≡◌, true, false, ap, sym, ◌∙◌}
use Rattle.std.proofs.lemmas.Result.{IfOk-weaker}
use Rattle.tg_graph.specs.Promise.Protection.{has_retired}
use Rattle.tg_graph.specs.Promise.Rules.{Applies, next_graph, reply_of}
use Rattle.tg_audit.specs.Inner.Replies.{retired_reply}
use Rattle.tg_audit.proofs.ReplayLemmas.{graph_permitted, reply_permitted, retired_settled, unretired_subject}
use Rattle.tg_audit.proofs.replaying.reply_to.Goals as goal

pub returns-then-retired-clause-reply : goal.returns-then-retired-clause-reply
returns-then-retired-clause-reply c =
    let G = c.args.graph.now in
    let e = c.args.entry.now in
    let retired : has_retired G e.actor ≡ true = ap (has_retired G) (sym c.actor-actor.ensures) ∙ (sym c.retired.ensures ∙ c.if-retired.true) in
    c.retired_reply.ensures ∙ (λ i. retired_reply (c.actor-actor.ensures i) (c.command-asked.ensures i)) ∙ (retired_settled c.requires.permitted.0 G e.actor retired e.command e.outcome c.requires.permitted.1).0

pub returns-then-retired-clause-graph : goal.returns-then-retired-clause-graph
returns-then-retired-clause-graph c =
    let G = c.args.graph.now in
    let e = c.args.entry.now in
    let retired : has_retired G e.actor ≡ true = ap (has_retired G) (sym c.actor-actor.ensures) ∙ (sym c.retired.ensures ∙ c.if-retired.true) in
    (retired_settled c.requires.permitted.0 G e.actor retired e.command e.outcome c.requires.permitted.1).1

pub apply-requires : goal.apply-requires
apply-requires c =
    let G = c.args.graph.now in
    let unretired : has_retired G c.actor-actor.result ≡ false = sym c.retired.ensures ∙ c.if-retired.false in
    unretired_subject G c.actor-actor.result (rw c.actor-actor.ensures c.requires.asks) unretired

pub returns-in_ok-command-in-None-clause-reply : goal.returns-in_ok-command-in-None-clause-reply
returns-in_ok-command-in-None-clause-reply c =
    let G = c.args.graph.now in
    let e = c.args.entry.now in
    let command = c.in_ok-command-in-None.command in
    IfOk-weaker c.apply.result (λ r. Applies G e.actor command r c.apply.new.self) (λ r. r ≡ reply_of G e.actor e.command e.outcome)
    (λ r applies. reply_permitted c.requires.permitted.0 G c.apply.new.self e.actor e.command command e.outcome r c.requires.permitted.1 (sym (rw c.outcome.ensures at c.in-None.ensures)) (rw c.command-asked.ensures at c.in_ok-command-in-None.ensures.equal) applies)
    (rw c.actor-actor.ensures at c.apply.ensures.ok)

pub returns-in_ok-command-in-None-clause-graph : goal.returns-in_ok-command-in-None-clause-graph
returns-in_ok-command-in-None-clause-graph c =
    let G = c.args.graph.now in
    let e = c.args.entry.now in
    let command = c.in_ok-command-in-None.command in
    IfOk-weaker c.apply.result (λ r. Applies G e.actor command r c.apply.new.self) (λ r. c.apply.new.self ≡ next_graph G e.actor e.command e.outcome)
    (λ r applies. graph_permitted c.requires.permitted.0 G c.apply.new.self e.actor e.command command e.outcome r c.requires.permitted.1 (sym (rw c.outcome.ensures at c.in-None.ensures)) (rw c.command-asked.ensures at c.in_ok-command-in-None.ensures.equal) applies)
    (rw c.actor-actor.ensures at c.apply.ensures.ok)
