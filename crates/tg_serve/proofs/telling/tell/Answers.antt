use Rattle.tg_serve.proofs.RoundsLemmas.{sends_nothing_on}
use Rattle.tg_serve.proofs.telling.tell.Goals as goal

pub returns-in-Seated-clause-told : goal.returns-in-Seated-clause-told
returns-in-Seated-clause-told g c = λ told. rw c.in-Seated.is (sends_nothing_on _ _)
