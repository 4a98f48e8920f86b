use Rattle.std.proofs.Common.{◌≡◌, ◌+◌, ◌∷◌, [], Some, get_or, sym, ap, ◌∙◌, subst, arith}
use Rattle.json.specs.Text.{short_escape}
use Rattle.tg_wire.proofs.LexemesLemmas.{ReadsOn, reads_further, reads_plain, reads_escape, reads_unit, escape_within, unit_within, decoded}
use Rattle.tg_wire.proofs.decoded.decode.Goals as goal

pub returns-in-34-clause-found : goal.returns-in-34-clause-found
returns-in-34-clause-found c =
    let d = c.args.bytes.now in
    let at = c.loop-letter.at in
    let end = c.plain_end-end.result in
    let on = reads_further d c.args.from at end c.loop-letter.text.items _ c.loop-letter.invariant.0 (reads_plain d at end c.plain_end-end.ensures.value) in
    decoded d c.args.from end _ (subst (ReadsOn d c.args.from end) (sym c.in_ok-extend_from_slice.ensures.items) on) (sym c.byte_at.ensures ∙ c.in-34.is)

pub loop-letter-preserved : goal.loop-letter-preserved
loop-letter-preserved c =
    let d = c.args.bytes.now in
    let from = c.args.from in
    let at = c.loop-letter.at in
    let end = c.plain_end-end.result in
    let means : short_escape (get_or d (end + 1) 32) ≡ Some c.in-Some-meant.byte = ap short_escape (sym c.byte_at-letter.ensures) ∙ c.in-Some-meant.ensures in
    let run = reads_further d from at end c.loop-letter.text.items _ c.loop-letter.invariant.0 (reads_plain d at end c.plain_end-end.ensures.value) in
    let before = subst (ReadsOn d from end) (sym c.in_ok-extend_from_slice.ensures.items) run in
    let on = reads_further d from end (end + 2) _ (c.in-Some-meant.byte ∷ []) before (reads_escape d end c.in-Some-meant.byte (sym c.byte_at.ensures ∙ c.in-92.is) means) in (
      subst (ReadsOn d from (end + 2)) (sym c.in_ok-push-in-92.ensures.items) on,
      omega (arith, c.loop-letter.invariant.1, c.plain_end-end.ensures.value),
      escape_within d end c.in-Some-meant.byte means,
    )

pub loop-letter-preserved-then-letter-eq117 : goal.loop-letter-preserved-then-letter-eq117
loop-letter-preserved-then-letter-eq117 c =
    let d = c.args.bytes.now in
    let from = c.args.from in
    let at = c.loop-letter.at in
    let end = c.plain_end-end.result in
    let opens = sym c.byte_at.ensures ∙ c.in-92.is in
    let unit : get_or d (end + 1) 32 ≡ 117 = sym c.byte_at-letter.ensures ∙ c.if-letter-eq117.true in
    let spelled = c.in-Some.ensures in
    let run = reads_further d from at end c.loop-letter.text.items _ c.loop-letter.invariant.0 (reads_plain d at end c.plain_end-end.ensures.value) in
    let before = subst (ReadsOn d from end) (sym c.in_ok-extend_from_slice.ensures.items) run in
    let on = reads_further d from end (end + 6) _ _ before (reads_unit d end c.in-Some.character opens unit spelled) in (
      subst (ReadsOn d from (end + 6)) (sym c.in_ok-push_character-in-92.ensures) on,
      omega (arith, c.loop-letter.invariant.1, c.plain_end-end.ensures.value),
      omega (arith, unit_within d (end + 2) c.in-Some.character spelled),
    )
