use Rattle.std.proofs.Common.{◌∙◌, List, ℕ, subst}
use Rattle.std.proofs.lemmas.Result.{IfOk-weaker}
use Rattle.tg_draw.specs.Promise.Picture.{Draws}
use Rattle.tgdoc.proofs.pictures.draw_end.Goals as goal

pub returns : goal.returns
returns c = IfOk-weaker c.draw.result _ _ (λ text drawn. subst (λ (label : List ℕ). Draws c.args.vault.now label text.items) (c.as_slice-rows.ensures.value ∙ c.in_ok-label.ensures) drawn) c.draw.ensures
