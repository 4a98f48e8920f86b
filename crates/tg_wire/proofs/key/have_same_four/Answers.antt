use Rattle.std.proofs.Common.{take, sym, ap, ◌∙◌, arith}
use Rattle.std.proofs.lemmas.Bool.{eqb-true, eq-eqb}
use Rattle.std.proofs.lemmas.List.{length-take-le}
use Rattle.std.proofs.lemmas.Nat.{le_bytes_4}
use Rattle.std.specs.Int.{from_le_bytes, to_le_bytes, w32}
use Rattle.tg_wire.proofs.QuotedLemmas.{first_are_bytes}
use Rattle.tg_wire.proofs.key.have_same_four.Goals as goal

pub returns : goal.returns
returns c =
    let xs = c.args.bytes.now in
    let word = c.args.word.now in
    let front = le_bytes_4 (take 4 xs) c.first_four.result (length-take-le 4 xs c.requires.bytes) (first_are_bytes 4 xs (λ k. omega (arith, c.type_inv.bytes k))) c.first_four.ensures in
    let letters = le_bytes_4 (take 4 word) c.first_four-2.result (length-take-le 4 word c.requires.word) (first_are_bytes 4 word (λ k. omega (arith, c.type_inv.word k))) c.first_four-2.ensures in (
      λ is. sym front ∙ ap (to_le_bytes w32) (eqb-true _ _ is) ∙ letters,
      λ same. eq-eqb _ _ (c.first_four.ensures ∙ ap (from_le_bytes w32) same ∙ sym c.first_four-2.ensures),
    )
