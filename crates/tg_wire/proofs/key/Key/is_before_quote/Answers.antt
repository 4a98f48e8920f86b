use Rattle.std.proofs.Common.{◌≡◌, ◌∙◌, length, arith}
use Rattle.std.proofs.lemmas.Bool.{eqb-true, eq-eqb}
use Rattle.tg_wire.specs.Inner.Keys.{key_text}
use Rattle.tg_wire.proofs.QuotedLemmas.{no_quoted, ends_in_quote, is_quoted}
use Rattle.tg_wire.proofs.key.Key.is_before_quote.Goals as goal

pub returns-then-bytes-at : goal.returns-then-bytes-at
returns-then-bytes-at c = (
  λ no. absurd (cc),
  λ starts. absurd (no_quoted c.args.bytes.now c.as_bytes-word.result.now (key_text c.args.self) c.loop-at.at (c.as_bytes-word.ensures.value ∙ c.word.ensures) c.loop-at-test.true c.if-bytes-at.true starts),
)

pub returns : goal.returns
returns c =
    let xs = c.args.bytes.now in
    let word = c.as_bytes-word.result.now in
    let text = key_text c.args.self in
    let at = c.loop-at.at in
    let same : word ≡ text = c.as_bytes-word.ensures.value ∙ c.word.ensures in
    let all : at ≡ length word = omega (arith, c.loop-at.invariant.1, c.loop-at-test.false) in (
      λ is. is_quoted xs word text at same all (omega arith) c.loop-at.invariant.0 (eqb-true _ 34 is),
      λ starts. eq-eqb _ 34 (ends_in_quote xs word text at same all starts),
    )
