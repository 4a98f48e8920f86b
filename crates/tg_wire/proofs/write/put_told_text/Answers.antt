use Rattle.std.proofs.Common.{◌≡◌, ◌∷◌, ◌++◌, [], OnOk, ap, ◌∙◌, subst, codes}
use Rattle.tg_wire.specs.Inner.LastLine.{line_in}
use Rattle.tg_wire.proofs.Literals.{numbers_on_literals}
use Rattle.tg_wire.proofs.ObjectLineLemmas.{closed}
use Rattle.tg_wire.proofs.write.put_told_text.Goals as goal

pub returns-then-is_plain_text : goal.returns-then-is_plain_text
unfolding numbers_on_literals
returns-then-is_plain_text c =
    let lead = codes "{\"ok\":\"text\",\"text\":\"" in
    let bytes = c.as_bytes-bytes.ensures.value ∙ c.get.ensures.bytes in
    subst (λ l. OnOk c.put_led_text.result (line_in c.put_led_text.new.line ≡ l)) (ap (λ s. lead ++ (s ++ 34 ∷ 125 ∷ 10 ∷ [])) bytes ∙ closed lead c.args.text.now c.if-is_plain_text.ensures) c.put_led_text.ensures
