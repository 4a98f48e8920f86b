use Rattle.tg_draw.proofs.OnePicture.{one_picture}
use Rattle.tg_draw.proofs.laws.one_picture.Goals as goal

pub returns : goal.returns
returns c = one_picture
