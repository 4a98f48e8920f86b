use Rattle.std.proofs.Common.{◌+◌, IfSome, sym, ◌∙◌, subst}
use Rattle.tg_wire.specs.Inner.Runs.{Decodes}
use Rattle.tg_wire.proofs.LexemesLemmas.{decoded_at}
use Rattle.tg_wire.proofs.decoded.read_decoded.Goals as goal

pub returns-in_ok-text_of-in-Ok-Some-clause-found : goal.returns-in_ok-text_of-in-Ok-Some-clause-found
returns-in_ok-text_of-in-Ok-Some-clause-found c =
    let d = c.args.bytes.now in
    let same = sym (c.in_ok-text_of-in-Ok-Some.ensures.same ∙ c.as_slice.ensures.value) in
    let found = subst (λ o. IfSome o (Decodes d (c.args.quote + 1) c.decode.new.text.items)) c.in-Ok-Some.field-0-is c.in-Ok-Some.ensures.found in
    let is = subst (λ t. Decodes d (c.args.quote + 1) t c.in-Ok-Some.end) same found in
    decoded_at d c.args.quote c.in-Ok-Some.end _ (sym c.byte_at.ensures ∙ c.if-byte_at-ne34.false) is
