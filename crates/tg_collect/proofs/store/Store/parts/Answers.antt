use Rattle.tg_collect.specs.Inner.Stored.{stored}
use Rattle.tg_collect.proofs.PartsLemmas.{lists_held}
use Rattle.tg_collect.proofs.store.Store.parts.Goals as goal

pub returns : goal.returns
returns c = rw (← c.self.view_is) (lists_held (stored c.self.inside.machine) (rw c.self.view_is c.soundness.ensures.sound) c.in_ok-vertices.vertices.items c.in_ok-edges.edges.items c.in_ok-vertices.ensures c.in_ok-edges.ensures)
