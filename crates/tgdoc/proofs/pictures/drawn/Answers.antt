use Rattle.std.proofs.Common.{◌∙◌, List, ℕ, true, false, refl, sym, ap, subst}
use Rattle.tg_draw.specs.Promise.Picture.{Draws}
use Rattle.tg_talk.specs.Promise.Answering.{one_if}
use Rattle.tgdoc.specs.Promise.Drawings.{drawn, line_label, not_drawn}
use Rattle.tgdoc.proofs.pictures.drawn.Goals as goal

pub returns-in-Err : goal.returns-in-Err
returns-in-Err c = record { lacks = true; pictured = not_drawn refl; counted = refl }

pub returns-in-Ok : goal.returns-in-Ok
returns-in-Ok c =
    let v = c.args.vault.now in
    let label : Draws v (line_label c.args.line.now c.bytes.result.now) c.in-Ok.picture.items = c.in-Ok.ensures in
    record {
      lacks = false;
      pictured = drawn (subst (Draws v _) (sym (c.counted.ensures.text _ ∙ c.put.ensures)) (subst (λ (answer : List ℕ). Draws v (line_label c.args.line.now answer) c.in-Ok.picture.items) c.bytes.ensures label));
      counted = ap one_if (c.counted.ensures.error ∙ c.is_error.ensures);
    }
