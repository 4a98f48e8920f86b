use Rattle.std.proofs.Common.{◌≡◌, length, take, subst, arith, Some}
use Rattle.std.proofs.Math.Seq.{take-length}
use Rattle.std.specs.List.{prefix_len}
use Rattle.std.specs.Char.{is_ascii_digit}
use Rattle.serde_json.specs.Data.{unsigned}
use Rattle.serde_json.specs.Read.{number_of}
use Rattle.tg_wire.proofs.NumbersLemmas.{front_number}
use Rattle.tg_wire.proofs.scan.number_in.Goals as goal

pub returns : goal.returns
returns c =
    let d = c.args.bytes.now in
    let k : prefix_len is_ascii_digit d ≡ length d = omega (arith, c.in_ok-number.ensures.ends.value, c.in_ok-number.ensures.ends.bound, c.if-end-bytes.false) in
    let is = front_number d c.in_ok-number.number (omega (arith, c.in_ok-number.ensures.ends.value, c.if-end-eq0.false)) c.in_ok-number.ensures.value c.in_ok-number.ensures.small in
    subst (λ ds. number_of ds ≡ Some (unsigned c.in_ok-number.number)) (take-length d) (subst (λ m. number_of (take m d) ≡ Some (unsigned c.in_ok-number.number)) k is)
