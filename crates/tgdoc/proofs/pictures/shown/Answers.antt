use Rattle.std.proofs.Common.{Bool, ap, subst, sym}
use Rattle.tg_talk.specs.Promise.Answering.{is_wrong, one_if, shown_line}
use Rattle.tgdoc.specs.Promise.Drawings.{Shown}
use Rattle.tgdoc.proofs.pictures.shown.Goals as goal

pub returns-then-artist : goal.returns-then-artist
returns-then-artist c = subst (λ (each : Bool). Shown each c.args.artist.now.vault c.args.line.now (shown_line c.args.room.now c.args.answered) (one_if (is_wrong c.args.answered)) (shown_line c.drawn.new.room c.drawn.result) (one_if (is_wrong c.drawn.result))) (sym c.if-artist.true) c.drawn.ensures

pub returns-else-artist : goal.returns-else-artist
returns-else-artist c =
    subst (λ (each : Bool). Shown each c.args.artist.now.vault c.args.line.now (shown_line c.args.room.now c.args.answered) (one_if (is_wrong c.args.answered)) (shown_line c.quiet.new.room c.quiet.result) (one_if (is_wrong c.quiet.result))) (sym c.if-artist.false)
    (c.quiet.ensures.silent, ap one_if c.quiet.ensures.error)
