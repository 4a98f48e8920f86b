use Rattle.std.proofs.Common.{ap, []}
use Rattle.tg_cells.specs.Promise.Lists.{Stands, owned, CellLists}
use Rattle.tg_heap.specs.Inner.Graph.{heap_of}
use Rattle.tg_heap.proofs.JoinLemmas.{first_is, joins_unlink}
use Rattle.tg_heap.proofs.heap.Heap.strip_one_cell.Goals as goal

pub unlink-requires : goal.unlink-requires
unlink-requires c =
    let f = first_is (owned c.self.inside.cells.lists c.args.id) c.in-Some.cell c.in-Some.ensures in
    record { before = []; edge = f.edge; after = f.after; stands = record { is = f.is; here = f.here } }

pub invariant_of-self : goal.invariant_of-self
invariant_of-self c =
    let f = first_is (owned c.self.inside.cells.lists c.args.id) c.in-Some.cell c.in-Some.ensures in
    let st : Stands c.self.inside.cells.lists c.in-Some.cell c.args.id [] f.edge f.after = record { is = f.is; here = f.here } in
    joins_unlink c.self.inside.slots c.self.inside.cells c.unlink.new.self c.args.id [] f.after f.edge f.is (ap (λ (l : CellLists). l.lists) (c.unlink.ensures [] f.edge f.after st)) c.self.invariant

pub returns-in-Some : goal.returns-in-Some
returns-in-Some c =
    let f = first_is (owned c.self.inside.cells.lists c.args.id) c.in-Some.cell c.in-Some.ensures in
    let st : Stands c.self.inside.cells.lists c.in-Some.cell c.args.id [] f.edge f.after = record { is = f.is; here = f.here } in
    rw (← c.self.view_is) (f.edge, f.after, f.is, ap (heap_of c.self.inside.slots) (c.unlink.ensures [] f.edge f.after st))
