use Rattle.std.proofs.Common.{◌≡◌, subst, ◌-◌, ◌<◌, length, take, drop, sym, ap, ◌∙◌, Some, arith}
use Rattle.std.proofs.lemmas.List.{get_or_default}
use Rattle.std.specs.List.{prefix_len}
use Rattle.std.specs.Char.{is_ascii_digit}
use Rattle.serde_json.specs.Data.{unsigned}
use Rattle.serde_json.specs.Read.{number_of}
use Rattle.tg_wire.proofs.LexemesLemmas.{ends_number, number_at}
use Rattle.tg_wire.proofs.NumbersLemmas.{front_number}
use Rattle.tg_wire.proofs.scan.read_number.Goals as goal

pub returns-clause-found : goal.returns-clause-found
returns-clause-found c =
    let d = c.args.bytes.now in
    let i = c.args.at in
    let t = drop i d in
    let end = c.in_ok-number.end in
    let n = c.in_ok-number.number in
    let run : prefix_len is_ascii_digit t ≡ end - i = omega (arith, c.in_ok-number.ensures.ends.value) in
    let there : i < length d = omega (arith, c.in_ok-number.ensures.ends.value, c.in_ok-number.ensures.ends.bound, c.if-end-at.false) in
    let number = front_number t n (omega (arith, run, c.in_ok-number.ensures.ends.value, c.if-end-at.false)) c.in_ok-number.ensures.value c.in_ok-number.ensures.small in
    let lexed = number_at d i end c.in_ok-number.ensures.ends.value c.if-end-at.false (λ zero. c.is_padded.ensures c.if-is_padded.false (get_or_default d i 0 32 there ∙ zero))
    (ap ends_number (sym c.byte_at.ensures) ∙ sym c.ends_number.ensures ∙ c.if-not-ends_number.false) in
    (take (end - i) t, subst (λ k. number_of (take k t) ≡ Some (unsigned n)) run number, lexed)
