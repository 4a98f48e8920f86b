use Rattle.std.proofs.Common.{◌∙◌, ap}
use Rattle.tg_cells.specs.declared.pool.Hop.{Hop}
use Rattle.tg_cells.specs.Promise.Lists.{Edge}
use Rattle.tg_cells.proofs.InsideLemmas.{linked_within, read_cell}
use Rattle.tg_cells.proofs.cells.Cells.target.Goals as goal

pub hop-requires : goal.hop-requires
hop-requires c = let l = c.requires in linked_within c.self.inside c.args.self.now c.self.view_is c.self.invariant.inside c.args.cell l.owner l.before l.after l.edge l.stands

pub returns : goal.returns
returns c = λ i p e r st. ap (λ (x : Hop). x.target) c.hop.ensures ∙ ap (λ (x : Edge). x.target) (read_cell c.self.inside c.args.self.now c.self.view_is c.self.invariant.inside c.args.cell i p r e st)
