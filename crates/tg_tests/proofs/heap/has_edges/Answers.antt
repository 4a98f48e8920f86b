use Rattle.std.proofs.Common.{ℕ, ◌+◌, Option, sym, subst}
use Rattle.tg_cells.specs.Promise.Lists.{Stands}
use Rattle.tg_cells.proofs.WalkLemmas.{Walked, walk_step}
use Rattle.tg_heap.specs.Promise.Graph.{edges}
use Rattle.tg_tests.proofs.heap.has_edges.Goals as goal

pub loop-edge-preserved : goal.loop-edge-preserved
loop-edge-preserved g c =
    let es = edges c.args.heap.now c.args.id in
    let count = c.loop-edge.invariant.0 in
    let s = walk_step es c.in-Some.cell count (subst (λ (o : Option ℕ). Walked es o count) c.in-Some.is c.loop-edge.invariant.1) in
    let stands : Stands c.args.heap.now.lists c.in-Some.cell c.args.id s.before s.edge s.after = record { is = s.is; here = s.here } in
    let next = c.next-next.ensures c.args.id s.before s.edge s.after stands in
    (count + 1, subst (λ (o : Option ℕ). Walked es o (count + 1)) (sym next) s.next)
