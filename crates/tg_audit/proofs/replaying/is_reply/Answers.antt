use Rattle.std.proofs.Common.{◌≡◌, true, ap, sym, ◌∙◌}
use Rattle.tg_graph.specs.Promise.Protection.{has_retired}
use Rattle.tg_graph.specs.Promise.Rules.{reply_of}
use Rattle.tg_audit.specs.Inner.Replies.{retired_reply}
use Rattle.tg_audit.proofs.ReplayLemmas.{retired_settled}
use Rattle.tg_audit.proofs.replaying.is_reply.Goals as goal

pub returns-then-retired-clause-same : goal.returns-then-retired-clause-same
returns-then-retired-clause-same c =
    let G = c.args.graph.now in
    let e = c.args.entry.now in
    let retired : has_retired G e.actor ≡ true = ap (has_retired G) (sym c.actor-actor.ensures) ∙ (sym c.retired.ensures ∙ c.if-retired.true) in
    let settled = (retired_settled c.requires.permitted.0 G e.actor retired e.command e.outcome c.requires.permitted.1).0 in
    let mine : c.retired_reply.result ≡ reply_of G e.actor e.command e.outcome = c.retired_reply.ensures ∙ (λ i. retired_reply (c.actor-actor.ensures i) (c.command-asked.ensures i)) ∙ settled in
    (λ is. sym mine ∙ c.are_same.ensures.0 is, λ same. c.are_same.ensures.1 (mine ∙ same))
