use Rattle.std.proofs.Common.{None, [], ap, arith, inl, refl, subst, ◌∙◌, ◌≡◌, sym}
use Rattle.tg_collect.proofs.Common.{Counts, HeapGraph, body_of, first_cell, remaining, lists_of, takes, edges}
use Rattle.tg_collect.specs.declared.machine.Progress.TheVariants as course
use Rattle.tg_collect.specs.Inner.Machine.{so_far}
use Rattle.tg_collect.proofs.SlotLemmas.{out_all}
use Rattle.tg_collect.proofs.LineLemmas.{step_of, cursor_left}
use Rattle.tg_collect.proofs.machine.Machine.take_grey.Goals as goal

pub first-cursor-requires : goal.first-cursor-requires
first-cursor-requires c =
    let listed = c.soundness.ensures.sound.table.listed_grey c.in-Some.slot (rw c.in-Some.ensures.0 (inl refl)) in
    rw c.in-Some.ensures.1 listed.0

pub returns-in-Some-clause-line : goal.returns-in-Some-clause-line
returns-in-Some-clause-line c =
    let m = so_far c.args.self.now (course.Marking None) in
    let g = c.pop_grey.new.self in
    let i = c.in-Some.slot in
    let same : edges g i ≡ edges m.heap i = ap (λ (h : HeapGraph). edges h i) c.in-Some.ensures.1 in
    let left : remaining c.first-cursor.result (edges g i) ≡ edges m.heap i = rw (c.first-cursor.ensures, same) (cursor_left m.heap i [] (edges m.heap i) c.soundness.ensures.sound refl) in
    step_of m g _ refl (ap (λ (h : HeapGraph). body_of h (lists_of m.roots)) c.in-Some.ensures.1) (rw (left, sym (out_all m.heap (lists_of m.roots) c.soundness.ensures.sound i)) (takes i g.table.grey c.in-Some.ensures.0))
    (c.first-cursor.ensures ∙ ap first_cell (same ∙ sym left)) (subst (λ (h : HeapGraph). Counts m.heap h 0) (sym c.in-Some.ensures.1) (grind arith))
