use Rattle.tg_collect.proofs.StoreLemmas.{placed_within, edge_looked_up}
use Rattle.tg_collect.proofs.store.Store.edge.Goals as goal

pub edge-requires : goal.edge-requires
edge-requires c = placed_within c.self.inside.machine c.args.id (rw (← c.self.view_is) at c.requires)

pub returns : goal.returns
returns c = rw (← c.self.view_is) (edge_looked_up c.self.inside.machine c.args.id c.args.serial c.edge.result c.soundness.ensures.sound c.self.invariant (rw (← c.self.view_is) at c.requires) c.edge.ensures)
