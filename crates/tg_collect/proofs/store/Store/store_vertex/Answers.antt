use Rattle.std.proofs.Common.{arith}
use Rattle.tg_collect.specs.Inner.Machine.{Whole, lists_of}
use Rattle.tg_collect.specs.Inner.Stored.{stored}
use Rattle.tg_collect.specs.Promise.Readings.{serial_at}
use Rattle.tg_collect.specs.Promise.Sessions.{VertexStored}
use Rattle.tg_collect.proofs.SeatLemmas.{acted_vertex}
use Rattle.tg_collect.proofs.SlotLemmas.{free_so}
use Rattle.tg_collect.proofs.VertexLemmas.{vertex_called, still_owner, still_none}
use Rattle.tg_collect.proofs.store.Store.store_vertex.Goals as goal

pub returns-then-free_slots-eq0-clause-slots : goal.returns-then-free_slots-eq0-clause-slots
returns-then-free_slots-eq0-clause-slots c = rw (← c.self.view_is) (λ e. let z = free_so c.self.inside.machine.heap (lists_of c.self.inside.machine.roots) c.soundness.ensures.sound in omega (arith, z))

pub returns-then-free_cells-eq0-clause-cells : goal.returns-then-free_cells-eq0-clause-cells
returns-then-free_cells-eq0-clause-cells c = rw (← c.self.view_is) (λ e. (λ n. (let z = free_so c.self.inside.machine.heap (lists_of c.self.inside.machine.roots) c.soundness.ensures.sound in omega (arith, z, n)), omega arith))

pub link_edge-requires-clause-owner : goal.link_edge-requires-clause-owner
link_edge-requires-clause-owner c = still_owner c.self.inside.machine c.place_vertex.new.self c.args.id c.in-Ok.slot c.args.serial c.args.kind c.args.text c.soundness.ensures.sound c.self.invariant
    (rw (← c.self.view_is) at c.requires.source) (rw (← c.self.view_is) at c.requires.unheld) (rw (← c.self.view_is) at c.requires.unparked) c.in-Ok.ensures.step

pub link_edge-requires-clause-none : goal.link_edge-requires-clause-none
link_edge-requires-clause-none c = still_none c.self.inside.machine c.place_vertex.new.self c.args.id c.in-Ok.slot c.args.serial c.args.kind c.args.text c.soundness.ensures.sound c.self.invariant
    (rw (← c.self.view_is) at c.requires.source) (rw (← c.self.view_is) at c.requires.unheld) (rw (← c.self.view_is) at c.requires.unparked) c.in-Ok.ensures.step

done : (c : goal.After-soundness-3) → Whole c.link_edge.new.self × VertexStored (stored c.self.inside.machine) (stored c.link_edge.new.self) c.args.seat (serial_at (stored c.self.inside.machine) c.args.id) c.args.serial c.args.kind c.args.text c.args.rights
done c = vertex_called c.self.inside.machine c.place_vertex.new.self c.args.id c.in-Ok.slot c.args.serial c.args.kind c.args.text c.soundness.ensures.sound c.self.invariant
    (rw (← c.self.view_is) at c.requires.source) (rw (← c.self.view_is) at c.requires.unheld) (rw (← c.self.view_is) at c.requires.unparked) c.in-Ok.ensures.step
    c.link_edge.new.self c.args.seat c.args.rights c.soundness-2.ensures.sound c.soundness-3.ensures.sound (rw (← c.self.view_is) at c.requires.idle) c.requires.seat c.link_edge.ensures.step

pub invariant_of-self : goal.invariant_of-self
invariant_of-self c = (done c).0

pub returns-clause-ok : goal.returns-clause-ok
returns-clause-ok c = rw (← c.self.view_is) (done c).1

pub returns-clause-acted : goal.returns-clause-acted
returns-clause-acted c = rw (← c.self.view_is) (acted_vertex (stored c.self.inside.machine) (stored c.link_edge.new.self) c.args.seat _ c.args.serial c.args.kind c.args.text c.args.rights (done c).1)
