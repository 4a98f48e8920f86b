use Rattle.tg_vault.proofs.MeaningsLemmas.{one_scene}
use Rattle.tg_vault.proofs.laws.one_scene.Goals as goal

pub returns : goal.returns
returns c = one_scene
