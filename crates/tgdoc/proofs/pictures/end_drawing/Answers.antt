use Rattle.std.proofs.Common.{◌∙◌, inl, inr, refl, sym}
use Rattle.tgdoc.specs.Inner.Drawing.{rests, writes}
use Rattle.tgdoc.proofs.PicturesLemmas.{fine_memory, fine_other, fine_reading, unfailed}
use Rattle.tgdoc.proofs.pictures.end_drawing.Goals as goal

pub returns-then-each-clause-ends : goal.returns-then-each-clause-ends
returns-then-each-clause-ends g c = rests (inl c.if-each.true) refl refl refl

pub returns-then-broken-clause-ends : goal.returns-then-broken-clause-ends
returns-then-broken-clause-ends g c = rests (inr (sym c.is_broken-broken.ensures ∙ c.if-broken.true)) refl refl refl

pub draw_last-requires-clause-writes : goal.draw_last-requires-clause-writes
draw_last-requires-clause-writes g c = unfailed _ c.args.ended.fault c.requires.writing (sym c.is_broken-broken.ensures ∙ c.if-broken.false)

pub draw_last-requires-clause-other : goal.draw_last-requires-clause-other
draw_last-requires-clause-other g c = fine_other c.args.ended.fault (sym c.is_broken-broken.ensures ∙ c.if-broken.false)

pub returns-clause-reading : goal.returns-clause-reading
returns-clause-reading g c = fine_reading c.args.ended.fault _ _ (sym c.is_broken-broken.ensures ∙ c.if-broken.false) c.draw_last.ensures.written.written.fault

pub returns-clause-memory : goal.returns-clause-memory
returns-clause-memory g c = fine_memory c.args.ended.fault _ _ c.draw_last.ensures.written.written.fault

pub returns-clause-ends : goal.returns-clause-ends
returns-clause-ends g c =
    let fine = sym c.is_broken-broken.ensures ∙ c.if-broken.false in
    writes c.if-each.false fine (unfailed _ c.args.ended.fault c.requires.writing fine) c.draw_last.ensures.written
