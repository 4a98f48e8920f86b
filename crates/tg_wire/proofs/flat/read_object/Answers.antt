use Rattle.std.proofs.Common.{◌≡◌, ◌+◌, ◌≤◌, length, drop, get_or, ap, refl, ◌∙◌, subst, arith}
use Rattle.std.proofs.lemmas.List.{drop_all}
use Rattle.json.specs.Lex.{between, lex}
use Rattle.json.specs.Word.{is_space}
use Rattle.tg_wire.proofs.LexemesLemmas.{EndsAt, operator_at, spaces_at, lex-nil}
use Rattle.tg_wire.proofs.FlatLemmas.{line_read}
use Rattle.tg_wire.proofs.flat.read_object.Goals as goal

pub returns : goal.returns
returns c =
    let d = c.args.line.now in
    let same = c.as_bytes-bytes.ensures.value in
    let brace = c.in_ok-brace.brace in
    let after = c.in_ok-after.after in
    let is_brace : get_or d brace 32 ≡ 123 = subst (λ t. get_or t brace 32 ≡ 123) same c.in_ok-brace.ensures.byte in
    let first = subst (λ t. lex between (drop 0 t) ≡ lex between (drop brace t)) same c.in_ok-brace.ensures.spaces in
    let last = spaces_at d after c.spaces_end.result (subst (λ t. EndsAt is_space t after c.spaces_end.result) same c.spaces_end.ensures.value) in
    let over : length d ≤ c.spaces_end.result = omega (arith, ap length same) in
    line_read d (brace + 1) after _ (first ∙ operator_at d brace 123 refl is_brace (λ z. omega arith)) c.in_ok-after.ensures.found (last ∙ ap (lex between) (drop_all c.spaces_end.result d over) ∙ lex-nil)
