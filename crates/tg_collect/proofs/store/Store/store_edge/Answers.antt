use Rattle.std.proofs.Common.{ap, subst, sym, ℕ, ◌≢◌, arith}
use Rattle.tg_slots.specs.Promise.Table.{Free}
use Rattle.tg_heap.specs.Promise.Graph.{mark_at}
use Rattle.tg_collect.specs.declared.machine.Root.{Root}
use Rattle.tg_collect.specs.Inner.Machine.{Adds}
use Rattle.tg_collect.proofs.CallLemmas.{AddCalled, add_called}
use Rattle.tg_collect.proofs.StoreLemmas.{placed_mark}
use Rattle.tg_collect.proofs.store.Store.store_edge.Goals as goal

pub add_edge-added-requires-clause-seat : goal.add_edge-added-requires-clause-seat
add_edge-added-requires-clause-seat c = let l = c.requires.seat in let s = c.self.invariant.roots.seats in omega (arith, l, s)

pub add_edge-added-requires-clause-owner : goal.add_edge-added-requires-clause-owner
add_edge-added-requires-clause-owner c = placed_mark c.self.inside.machine c.args.id (rw (← c.self.view_is) at c.requires.source)

pub add_edge-added-requires-clause-target : goal.add_edge-added-requires-clause-target
add_edge-added-requires-clause-target c = subst (λ (i : ℕ). mark_at c.self.inside.machine.heap i ≢ Free) (ap (λ (r : Root). r.slot) (sym c.root_at-root.ensures))
    (placed_mark c.self.inside.machine c.args.target (rw (← c.self.view_is) at c.requires.target))

done : (c : goal.After-soundness-2) → AddCalled c.self.inside.machine c.add_edge-added.new.self c.args.seat c.args.id c.args.target c.args.rights c.add_edge-added.result
done c =
    let m = c.self.inside.machine in
    add_called m c.add_edge-added.new.self c.args.seat c.args.id c.args.target c.args.rights c.add_edge-added.result c.soundness.ensures.sound c.soundness-2.ensures.sound c.self.invariant
    (rw (← c.self.view_is) at c.requires.source) (rw (← c.self.view_is) at c.requires.target) c.requires.distinct (rw (← c.self.view_is) at c.requires.idle) c.requires.seat
    (subst (λ (r : Root). Adds m c.args.seat c.args.id r c.args.rights c.add_edge-added.result c.add_edge-added.new.self) (rw (← c.self.view_is) at c.root_at-root.ensures) c.add_edge-added.ensures.step)

pub invariant_of-self : goal.invariant_of-self
invariant_of-self c = (done c).whole

pub returns : goal.returns
returns c = rw (← c.self.view_is) (let d = done c in record { ok = d.ok; acted = d.acted; full = d.full; unchanged = d.unchanged })
