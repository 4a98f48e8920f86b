use Rattle.tg_heap.proofs.JoinLemmas.{sought}
use Rattle.tg_heap.proofs.heap.Heap.edge.Goals as goal

pub returns-in-Some : goal.returns-in-Some
returns-in-Some c =
    let at = sought c.self.inside.cells.lists c.args.id c.args.serial c.in-Some.cell c.in-Some.ensures in
    let f = at.found in
    rw (← c.self.view_is) (f, c.target.ensures c.args.id f.before f.edge f.after at.stands, c.label.ensures c.args.id f.before f.edge f.after at.stands)
