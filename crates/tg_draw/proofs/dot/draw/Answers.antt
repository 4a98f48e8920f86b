use Rattle.std.proofs.lemmas.Result.{IfOk-weaker}
use Rattle.tg_draw.proofs.dot.draw.Goals as goal

pub returns : goal.returns
returns c = IfOk-weaker c.picture.result _ _ (λ text is. record { scene = c.in_ok-scene.scene; shows = c.in_ok-scene.ensures; is = is }) c.picture.ensures
