use Rattle.std.proofs.Common.{Some, [], ap, arith, sym, ◌∷◌, append_assoc, refl, ◌++◌, ◌∙◌, ℕ}
use Rattle.tg_collect.proofs.LineLemmas.{scan_linked, shaded_counts, step_of, cursor_left}
use Rattle.tg_collect.proofs.Common.{first_cell, contains_middle, lists_of, scans, edges, remaining}
use Rattle.tg_collect.specs.Inner.Machine.{scanning, so_far}
use Rattle.tg_collect.proofs.SlotLemmas.{shaded_so}
use Rattle.tg_collect.proofs.machine.Machine.scan_cell.Goals as goal

pub target-target-requires : goal.target-target-requires
target-target-requires c =
    let s = scan_linked (so_far c.args.self.now (scanning c.args.slot (Some c.args.cursor))) c.args.slot c.args.cursor refl c.requires.whole in
    record { owner = c.args.slot; before = s.before; edge = s.edge; after = s.after; stands = s.stands }

pub next-next-requires : goal.next-next-requires
next-next-requires c =
    let s = scan_linked (so_far c.args.self.now (scanning c.args.slot (Some c.args.cursor))) c.args.slot c.args.cursor refl c.requires.whole in
    record { owner = c.args.slot; before = s.before; edge = s.edge; after = s.after; stands = s.stands }

pub shade-requires : goal.shade-requires
shade-requires c =
    let s = scan_linked (so_far c.args.self.now (scanning c.args.slot (Some c.args.cursor))) c.args.slot c.args.cursor refl c.requires.whole in
    let is = c.target-target.ensures c.args.slot s.before s.edge s.after s.stands in
    let within = c.soundness.ensures.sound.targets c.args.slot s.edge (rw s.stands.is (contains_middle s.before s.after s.edge)) in
    omega (arith, is, within)

pub returns : goal.returns
returns c =
    let m = so_far c.args.self.now (scanning c.args.slot (Some c.args.cursor)) in
    let s = scan_linked m c.args.slot c.args.cursor refl c.requires.whole in
    let target = c.target-target.ensures c.args.slot s.before s.edge s.after s.stands in
    let next = c.next-next.ensures c.args.slot s.before s.edge s.after s.stands in
    let here = ap (λ (n : ℕ). remaining (Some n) (edges m.heap c.args.slot)) (sym s.stands.here) ∙ cursor_left m.heap c.args.slot s.before (s.edge ∷ s.after) c.soundness.ensures.sound s.stands.is in
    let left = cursor_left m.heap c.args.slot (s.before ++ s.edge ∷ []) s.after c.soundness.ensures.sound (s.stands.is ∙ sym (append_assoc s.before (s.edge ∷ []) s.after)) in
    record {
      line = rw (c.shade.ensures, target, next)
          (step_of m _ _ refl (shaded_so m.heap (lists_of m.roots) s.edge.target) (rw (here, left) (scans c.args.slot s.edge s.after)) (sym (ap first_cell left)) (shaded_counts m.heap (Some s.edge.target ∷ [])));
    }
