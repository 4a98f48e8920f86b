use Rattle.std.proofs.Common.{◌≡◌, ◌∙◌, ◌∷◌, ◌++◌, sym, ap, subst, ℕ, inl, set}
use Rattle.tg_rights.specs.Promise.Letters.{Letters, joined}
use Rattle.tg_cells.specs.Promise.Lists.{CellLists}
use Rattle.tg_heap.specs.Inner.Graph.{heap_of}
use Rattle.tg_heap.specs.Promise.Calls.{IsAdded}
use Rattle.tg_slots.specs.Promise.Table.{slot}
use Rattle.tg_slots.specs.declared.slots.Occupant.{Occupant}
use Rattle.tg_heap.proofs.JoinLemmas.{joins_label, reads, sought}
use Rattle.tg_heap.proofs.heap.Heap.add_rights.Goals as goal

pub invariant_of-self : goal.invariant_of-self
invariant_of-self c =
    let at = sought c.self.inside.cells.lists c.args.id c.unwrap-serial.result c.in-Some.cell c.in-Some.ensures in
    let f = at.found in
    joins_label c.self.inside.slots c.self.inside.cells c.set_rights.new.self c.args.id f.before f.after f.edge c.union.result f.is
    (ap (λ (l : CellLists). l.lists) (c.set_rights.ensures c.args.id f.before f.edge f.after at.stands)) c.self.invariant

pub returns-in-Some : goal.returns-in-Some
returns-in-Some c =
    let o = reads (λ (x : Occupant). x.serial) (slot c.self.inside.slots c.args.target) c.unwrap-serial.result (sym c.serial.ensures ∙ c.unwrap-serial.ensures) in
    let at = sought c.self.inside.cells.lists c.args.id c.unwrap-serial.result c.in-Some.cell c.in-Some.ensures in
    let f = at.found in
    let label : c.union.result ≡ joined f.edge.rights c.args.rights = c.union.ensures ∙ ap (λ (l : Letters). joined l c.args.rights) (c.label-label.ensures c.args.id f.before f.edge f.after at.stands) in
    rw (← c.self.view_is) (
      o.occupant,
      o.is,
      subst (λ (n : ℕ). IsAdded (heap_of c.self.inside.slots c.self.inside.cells) (heap_of c.self.inside.slots c.set_rights.new.self) c.args.id c.args.target n c.args.rights) (sym o.here)
          (inl (
            f,
            ap (heap_of c.self.inside.slots) (c.set_rights.ensures c.args.id f.before f.edge f.after at.stands
                ∙ ap (λ (l : Letters). record c.self.inside.cells { lists = set c.self.inside.cells.lists c.args.id (f.before ++ record f.edge { rights = l } ∷ f.after) }) label),
          )),
    )
