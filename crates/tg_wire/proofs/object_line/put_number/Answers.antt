use Rattle.std.proofs.Common.{◌∷◌, [], sym, ap, ap₂, ◌∙◌}
use Rattle.tg_wire.proofs.ObjectLineLemmas.{appended, said_as, one_digit, two_digits, three_digits, four_digits}
use Rattle.tg_wire.proofs.object_line.put_number.Goals as goal

pub returns-then-number-lt10 : goal.returns-then-number-lt10
returns-then-number-lt10 c = said_as c.put_byte.result _ _ (ap (λ d. d ∷ []) c.last_digit-one.ensures ∙ sym (one_digit c.args.number c.if-number-lt10.true)) c.put_byte.ensures

pub returns-then-number-lt100 : goal.returns-then-number-lt100
returns-then-number-lt100 c =
    said_as c.put_two.result _ _
    (ap₂ (λ d e. d ∷ e ∷ []) c.last_digit-ten.ensures c.last_digit-one.ensures ∙ sym (two_digits c.args.number c.if-number-lt10.false c.if-number-lt100.true)) c.put_two.ensures

pub returns-then-number-lt1000 : goal.returns-then-number-lt1000
returns-then-number-lt1000 c =
    appended _ _ _ c.extend_from_slice.ensures.items
    (ap₂ (λ d l. d ∷ l) c.last_digit-hundred.ensures (ap₂ (λ d e. d ∷ e ∷ []) c.last_digit-ten.ensures c.last_digit-one.ensures)
    ∙ sym (three_digits c.args.number c.if-number-lt100.false c.if-number-lt1000.true))

pub returns : goal.returns
returns c =
    appended _ _ _ c.extend_from_slice-2.ensures.items
    (ap₂ (λ d l. d ∷ l) c.last_digit-thousand.ensures (ap₂ (λ d l. d ∷ l) c.last_digit-hundred.ensures (ap₂ (λ d e. d ∷ e ∷ []) c.last_digit-ten.ensures c.last_digit-one.ensures))
    ∙ sym (four_digits c.args.number c.if-number-lt1000.false c.if-number-ge10000.false))
