use Rattle.std.proofs.Common.{◌∙◌, ap, length, length-set, refl, set, sym}
use Rattle.tg_cells.specs.Inner.Chain.{Pooled}
use Rattle.tg_cells.specs.Inner.Inside.{place_in}
use Rattle.tg_cells.proofs.ListLemmas.{relabelled}
use Rattle.tg_cells.proofs.InsideLemmas.{linked_within}
use Rattle.tg_cells.proofs.StepLemmas.{leaves-rights}
use Rattle.tg_cells.proofs.IndexLemmas.{stays, index_seen, indexes-same, index-rights}
use Rattle.tg_cells.proofs.cells.Cells.set_rights.Goals as goal

pub set_rights-requires : goal.set_rights-requires
set_rights-requires c = let l = c.requires.linked in linked_within c.self.inside c.args.self.now c.self.view_is c.self.invariant.inside c.args.cell l.owner l.before l.after l.edge l.stands

pub invariant_of-self : goal.invariant_of-self
invariant_of-self c =
    let l = c.requires.linked in
    let x = index_seen c.self.inside c.args.self.now c.self.view_is c.self.invariant in
    (stays (record c.self.inside { cells = c.set_rights.new.self }) (record c.args.self.now { lists = set c.args.self.now.lists l.owner (relabelled l.before l.edge c.args.rights l.after) })
    (leaves-rights c.self.inside c.args.self.now c.self.view_is c.self.invariant.inside c.set_rights.new.self c.args.cell l.owner l.before l.after l.edge c.args.rights l.stands c.requires.some c.set_rights.ensures)
    (indexes-same c.self.inside (record c.self.inside { cells = c.set_rights.new.self }) c.args.self.now.lists
    (set c.args.self.now.lists l.owner (relabelled l.before l.edge c.args.rights l.after)) x refl refl (sym (ap (λ (w : Pooled). length w.items) c.set_rights.ensures ∙ length-set c.self.inside.cells.items c.args.cell _)) refl
    (index-rights (place_in c.self.inside) c.self.inside.index.lists c.args.self.now l.owner c.args.cell l.before l.after l.edge c.args.rights x.edges l.stands))).kept

pub returns : goal.returns
returns c = λ i p e r st. (leaves-rights c.self.inside c.args.self.now c.self.view_is c.self.invariant.inside c.set_rights.new.self c.args.cell i p r e c.args.rights st c.requires.some c.set_rights.ensures).shows
