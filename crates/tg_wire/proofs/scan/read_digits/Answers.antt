use Rattle.std.proofs.Common.{◌≡◌, ◌+◌, ◌*◌, true, cond, drop, get_or, sym, ap, ◌∙◌, arith}
use Rattle.std.proofs.lemmas.List.{at_drop_more}
use Rattle.std.proofs.lemmas.Str.{digit_value_digit}
use Rattle.std.specs.List.{prefix_len}
use Rattle.std.specs.Char.{digit_value, is_ascii_digit}
use Rattle.std.specs.Str.Parse.{digits_value_after}
use Rattle.tg_wire.specs.Inner.Runs.{front}
use Rattle.tg_wire.proofs.NumbersLemmas.{front_more}
use Rattle.tg_wire.proofs.scan.read_digits.Goals as goal

pub loop-at-init : goal.loop-at-init
loop-at-init c =
    let d = c.args.bytes.now in
    let from = c.args.from in
    let byte = get_or d from 0 in
    let digit : is_ascii_digit byte ≡ true = sym c.is_ascii_digit.ensures.value ∙ c.if-not-is_ascii_digit.false in
    let value : digit_value byte + 48 ≡ byte = digit_value_digit byte (grind (arith, digit)) in
    let same : 0 * 10 + digit_value byte ≡ c.from-number.result = omega (arith, value, c.from-number.ensures) in
    let run = at_drop_more (prefix_len is_ascii_digit) d from 0 c.if-from-bytes.false ∙ ap (λ b. cond b (1 + prefix_len is_ascii_digit (drop (from + 1) d)) 0) digit in
    let more = at_drop_more (λ xs. digits_value_after 10 0 (front xs)) d from 0 c.if-from-bytes.false ∙ front_more 0 byte (drop (from + 1) d) digit in (
      omega (arith, run),
      omega (arith, c.if-from-bytes.false),
      more ∙ ap (λ m. digits_value_after 10 m (front (drop (from + 1) d))) same,
      c.from-number.type_inv,
    )

pub loop-at-preserved : goal.loop-at-preserved
loop-at-preserved c =
    let d = c.args.bytes.now in
    let at = c.loop-at.at in
    let n = c.loop-at.number in
    let byte = get_or d at 0 in
    let digit : is_ascii_digit byte ≡ true = sym c.is_ascii_digit-in-loop-at.ensures.value ∙ c.if-is_ascii_digit.true in
    let value : digit_value byte + 48 ≡ byte = digit_value_digit byte (grind (arith, digit)) in
    let (below, is) = c.in_ok-number.ensures in
    let same : n * 10 + digit_value byte ≡ c.in_ok-number.number = omega (arith, value, c.from.ensures, is) in
    let run = at_drop_more (prefix_len is_ascii_digit) d at 0 c.loop-at-test.true ∙ ap (λ b. cond b (1 + prefix_len is_ascii_digit (drop (at + 1) d)) 0) digit in
    let more = at_drop_more (λ xs. digits_value_after 10 n (front xs)) d at 0 c.loop-at-test.true ∙ front_more n byte (drop (at + 1) d) digit in (
      omega (arith, c.loop-at.invariant.0, run),
      omega (arith, c.loop-at-test.true),
      c.loop-at.invariant.2 ∙ more ∙ ap (λ m. digits_value_after 10 m (front (drop (at + 1) d))) same,
      omega (arith, below, is),
    )
