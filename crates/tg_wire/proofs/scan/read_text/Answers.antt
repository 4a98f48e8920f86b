use Rattle.std.proofs.Common.{◌≡◌, ◌+◌, ◌∷◌, drop, get_or, sym, ap, ◌∙◌, subst, arith}
use Rattle.std.proofs.lemmas.Str.{IsCharBoundary-after_ascii}
use Rattle.std.proofs.lemmas.List.{get_or_default}
use Rattle.json.specs.Token.{string}
use Rattle.json.specs.Run.{is_plain}
use Rattle.json.specs.Lex.{token, between, lex}
use Rattle.tg_rights.specs.Promise.Escapes.{NeedsNoEscape}
use Rattle.tg_wire.proofs.LexemesLemmas.{EndsAt, within, text_at}
use Rattle.tg_wire.proofs.StopsLemmas.{run_is_plain}
use Rattle.tg_wire.proofs.scan.read_text.Goals as goal

pub range-requires-clause-start_boundary : goal.range-requires-clause-start_boundary
range-requires-clause-start_boundary c some =
    let d = c.args.line.now in
    let i = c.args.quote in
    let opens : get_or d i 32 ≡ 34 = c.requires.opens in
    IsCharBoundary-after_ascii d i c.utf8.line (within d i 34 opens (λ z. omega arith)) (omega (arith, get_or_default d i 0 32 (within d i 34 opens (λ z. omega arith)), opens))

pub new-requires : goal.new-requires
new-requires c =
    let d = c.args.line.now in
    let from = c.args.quote + 1 in
    let ends : EndsAt is_plain d from c.plain_end-end.result = subst (λ t. EndsAt is_plain t from c.plain_end-end.result) c.as_bytes-bytes.ensures.value c.plain_end-end.ensures.value in
    subst NeedsNoEscape (sym c.range.ensures.value) (run_is_plain d from c.plain_end-end.result ends)

pub returns-clause-found : goal.returns-clause-found
returns-clause-found c =
    let d = c.args.line.now in
    let i = c.args.quote in
    let same = c.as_bytes-bytes.ensures.value in
    let opens : get_or d i 32 ≡ 34 = c.requires.opens in
    let closes : get_or d c.plain_end-end.result 32 ≡ 34 = ap (λ t. get_or t c.plain_end-end.result 32) (sym same) ∙ sym c.byte_at.ensures ∙ c.if-byte_at-ne34.false in
    let ends : EndsAt is_plain d (i + 1) c.plain_end-end.result = subst (λ t. EndsAt is_plain t (i + 1) c.plain_end-end.result) same c.plain_end-end.ensures.value in
    text_at d i c.plain_end-end.result opens ends closes ∙ ap (λ s. token (string s) ∷ lex between (drop (c.plain_end-end.result + 1) d)) (sym c.range.ensures.value ∙ sym c.new.ensures)
