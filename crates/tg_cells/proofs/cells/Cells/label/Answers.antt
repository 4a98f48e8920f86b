use Rattle.std.proofs.Common.{◌∙◌, ap}
use Rattle.tg_cells.specs.declared.pool.Rest.{Rest}
use Rattle.tg_cells.specs.Promise.Lists.{Edge}
use Rattle.tg_cells.proofs.InsideLemmas.{linked_within, read_cell}
use Rattle.tg_cells.proofs.cells.Cells.label.Goals as goal

pub rest-requires : goal.rest-requires
rest-requires c = let l = c.requires in linked_within c.self.inside c.args.self.now c.self.view_is c.self.invariant.inside c.args.cell l.owner l.before l.after l.edge l.stands

pub returns : goal.returns
returns c = λ i p e r st. ap (λ (x : Rest). x.rights) c.rest.ensures ∙ ap (λ (x : Edge). x.rights) (read_cell c.self.inside c.args.self.now c.self.view_is c.self.invariant.inside c.args.cell i p r e st)
