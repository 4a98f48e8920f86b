use Rattle.std.proofs.Common.{◌∙◌, sym}
use Rattle.tg_rights.proofs.EqualityLemmas.{replies_decided}
use Rattle.tg_audit.proofs.replaying.are_same.Goals as goal

pub returns : goal.returns
returns c =
    let replies = replies_decided c.args.reply c.args.told.now in (λ e. replies.0 (sym c.eq.ensures ∙ e), λ same. c.eq.ensures ∙ replies.1 same)
