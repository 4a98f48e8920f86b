use Rattle.std.proofs.Common.{◌≡◌, ◌∷◌, drop, refl, subst}
use Rattle.json.specs.Token.{number, string}
use Rattle.json.specs.Lex.{token, between, lex}
use Rattle.tg_wire.proofs.flat.read_value.Goals as goal

pub returns-in_ok-number-clause-found : goal.returns-in_ok-number-clause-found
returns-in_ok-number-clause-found c =
    let found = c.in_ok-number.ensures.found in
    (number found.0, found.1, subst (λ d. lex between (drop c.args.at d) ≡ token (number found.0) ∷ lex between (drop c.in_ok-number.after d)) c.as_bytes-else-first-eq34.ensures.value found.2)

pub returns-in_ok-text-clause-found : goal.returns-in_ok-text-clause-found
returns-in_ok-text-clause-found c =
    (string c.in_ok-text.text.now, refl, subst (λ d. lex between (drop c.args.at d) ≡ token (string c.in_ok-text.text.now) ∷ lex between (drop c.in_ok-text.after d)) c.as_bytes.ensures.value c.in_ok-text.ensures.found)
