use Rattle.std.proofs.Common.{◌+◌, ◌∷◌, length, drop, sym, ap, ◌∙◌, subst}
use Rattle.std.proofs.lemmas.List.{take_rest}
use Rattle.std.specs.Io.{StartsWith}
use Rattle.json.specs.Token.{string}
use Rattle.json.specs.Lex.{token, between, lex}
use Rattle.tg_wire.specs.Inner.Keys.{key_text}
use Rattle.tg_wire.proofs.QuotedLemmas.{quoted, key_at}
use Rattle.tg_wire.proofs.scan.read_key.Goals as goal

pub returns-clause-found : goal.returns-clause-found
returns-clause-found c =
    let d = c.args.bytes.now in
    let i = c.args.quote in
    let key = c.in_ok-key.key in
    let starts = subst (λ xs. StartsWith xs (quoted (key_text key))) (take_rest d (i + 1)) c.in_ok-key.ensures.some in
    key_at d i key c.requires.opens starts ∙ ap (λ n. token (string (key_text key)) ∷ lex between (drop (i + n + 2) d)) (sym (ap length c.word.ensures))
