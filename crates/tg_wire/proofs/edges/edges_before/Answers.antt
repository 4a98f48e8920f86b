use Rattle.std.proofs.Common.{◌≡◌, ◌∙◌, ap, sym, arith}
use Rattle.tg_wire.specs.Inner.Told.{edges_text}
use Rattle.tg_wire.proofs.EdgesLemmas.{past_comma}
use Rattle.tg_wire.proofs.edges.edges_before.Goals as goal

pub returns-else-later-clause-text : goal.returns-else-later-clause-text
returns-else-later-clause-text c =
    let all : c.loop-at.at ≡ 0 = omega arith in
    past_comma c.loop-at.room c.loop-at.start c.args.few.now c.requires.some (rw all at c.loop-at.invariant.4)
    ∙ ap (λ b. edges_text b c.args.few.now) (sym c.if-later.false)
