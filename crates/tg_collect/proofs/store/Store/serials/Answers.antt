use Rattle.tg_collect.specs.Inner.Stored.{stored}
use Rattle.tg_collect.proofs.PartsLemmas.{serials_held}
use Rattle.tg_collect.proofs.store.Store.serials.Goals as goal

pub returns : goal.returns
returns c = rw (← c.self.view_is) (serials_held (stored c.self.inside.machine) (rw c.self.view_is c.soundness.ensures.sound) c.in_ok-found.found.items c.in_ok-found.ensures)
