use Rattle.std.proofs.Common.{◌≡◌, ◌∷◌, ◌+◌, drop, get_or, ap, refl, ◌∙◌, subst, arith}
use Rattle.json.specs.Token.{string}
use Rattle.json.specs.Lex.{token, colon, between, lex}
use Rattle.tg_wire.specs.Inner.Keys.{key_text}
use Rattle.json.specs.Word.{is_space}
use Rattle.tg_wire.proofs.LexemesLemmas.{EndsAt, operator_at, spaces_at}
use Rattle.tg_wire.proofs.flat.read_member.Goals as goal

pub returns-clause-found : goal.returns-clause-found
returns-clause-found c =
    let d = c.args.line.now in
    let same = c.as_bytes-bytes.ensures.value in
    let quote = c.in_ok-quote.quote in
    let after = c.in_ok-key.after in
    let colon_at = c.in_ok-between.between in
    let value = c.in_ok-value.ensures.found in
    let first = subst (λ t. lex between (drop c.args.from t) ≡ lex between (drop quote t)) same c.in_ok-quote.ensures.spaces in
    let key = subst (λ t. lex between (drop quote t) ≡ token (string (key_text c.in_ok-key.key)) ∷ lex between (drop after t)) same c.in_ok-key.ensures.found in
    let behind_key = subst (λ t. lex between (drop after t) ≡ lex between (drop colon_at t)) same c.in_ok-between.ensures.spaces in
    let is_colon : get_or d colon_at 32 ≡ 58 = subst (λ t. get_or t colon_at 32 ≡ 58) same c.in_ok-between.ensures.byte in
    let behind_colon = spaces_at d (colon_at + 1) c.after_spaces-start.result.0 (subst (λ t. EndsAt is_space t (colon_at + 1) c.after_spaces-start.result.0) same c.after_spaces-start.ensures.place.value) in (
      value.0,
      value.1,
      first ∙ key ∙ ap (λ ls. token (string (key_text c.in_ok-key.key)) ∷ ls) (behind_key ∙ operator_at d colon_at 58 refl is_colon (λ z. omega arith)
          ∙ ap (λ ls. colon ∷ ls) (behind_colon ∙ value.2)),
    )
