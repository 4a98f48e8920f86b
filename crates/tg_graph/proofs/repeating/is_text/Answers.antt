use Rattle.std.proofs.Common.{sym, ◌∙◌}
use Rattle.tg_rights.specs.declared.outcome.Reply.TheVariants as reply
use Rattle.tg_rights.proofs.EqualityLemmas.{replies_decided}
use Rattle.tg_graph.proofs.repeating.is_text.Goals as goal

pub returns-in-Text : goal.returns-in-Text
returns-in-Text c =
    let replies = replies_decided (reply.Text c.args.text.now) (reply.Text c.in-Text.other) in
    (λ e. replies.0 (sym c.eq.ensures ∙ e) ∙ sym c.in-Text.is, λ same. c.eq.ensures ∙ replies.1 (same ∙ c.in-Text.is))
