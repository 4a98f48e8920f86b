use Rattle.tg_audit.proofs.SettledLemmas.{places_stay}
use Rattle.tg_audit.proofs.places_stay.Goals as goal

pub returns : goal.returns
returns c = places_stay
