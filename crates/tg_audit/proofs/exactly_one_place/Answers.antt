use Rattle.tg_audit.proofs.OnePlaceLemmas.{place_once, some_place}
use Rattle.tg_audit.proofs.exactly_one_place.Goals as goal

pub returns : goal.returns
returns c = λ v logs. let found = some_place v logs in (found.0, found.1, λ q. place_once v logs found.0 q found.1)
