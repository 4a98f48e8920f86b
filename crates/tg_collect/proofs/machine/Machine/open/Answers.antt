use Rattle.std.proofs.Common.{ℕ, ◌∙◌, subst}
use Rattle.tg_collect.specs.Inner.Stored.{stored}
use Rattle.tg_collect.specs.Promise.Openings.{Opened}
use Rattle.tg_collect.proofs.OpeningEdges.{no_edges_yet}
use Rattle.tg_collect.proofs.machine.Machine.open.Goals as goal

pub open_edges-requires : goal.open_edges-requires
open_edges-requires c = no_edges_yet c.open_principals.new.self c.args.graph.now c.open_principals.ensures.all c.soundness.ensures

pub returns-clause-opened : goal.returns-clause-opened
returns-clause-opened c =
    let size = c.open_principals.ensures.size in
    let v = stored c.open_edges.new.self in
    subst (λ (n : ℕ). Opened v c.args.graph.now c.args.slots n) (size.cells ∙ c.in_ok-machine.ensures.cells)
    (subst (λ (n : ℕ). Opened v c.args.graph.now n c.open_principals.new.self.heap.cell_count) (size.slots ∙ c.in_ok-machine.ensures.slots) c.open_edges.ensures.opened)
