use Rattle.std.proofs.Common.{◌∙◌, length, ap}
use Rattle.tg_talk.specs.Promise.Taking.{Input, Takes}
use Rattle.tg_talk.proofs.InputLinesLemmas.{lines_of-long}
use Rattle.tg_talk.proofs.TakingLemmas.{by_drop, end_of, front_line, last_line, takes_line, takes_long}
use Rattle.tg_talk.proofs.input_lines.InputLines.next.Goals as goal

pub returns-in-TooLong-clause-takes : goal.returns-in-TooLong-clause-takes
returns-in-TooLong-clause-takes g c =
    by_drop _ c.consume.new.self c.find.new.self _ (Takes _ _ _ _) _ (c.consume.ensures ∙ ap (λ (v : Input). v.left) c.self.view_is) c.find.ensures.kept (λ xs r is split.
    takes_long _ _ c.self.inside.taken _ _ xs (ap (λ (v : Input). v.taken) c.self.view_is) c.requires.few c.counted-next.ensures.within c.counted-next.ensures.over
    (rw split (lines_of-long 16384 c.find.new.self r c.in-TooLong.ensures.found.0 c.in-TooLong.ensures.found.1)))

pub returns-in-Line-clause-takes : goal.returns-in-Line-clause-takes
returns-in-Line-clause-takes g c =
    by_drop _ c.consume.new.self c.find.new.self _ (Takes _ _ _ _) _ (c.consume.ensures ∙ ap (λ (v : Input). v.left) c.self.view_is) c.find.ensures.kept (λ xs r is split.
    takes_line _ _ c.self.inside.taken _ _ xs (ap (λ (v : Input). v.taken) c.self.view_is) c.requires.few c.counted-next-in-Line.ensures.within c.counted-next-in-Line.ensures.over
    (front_line c.find.new.self r xs c.in-Line.n _ c.in-Line.ensures.found.0 is split))

pub returns-in-Last-clause-takes : goal.returns-in-Last-clause-takes
returns-in-Last-clause-takes g c =
    let (none, some, short, over) = c.in-Last.ensures.found in
    by_drop _ c.consume.new.self c.find.new.self _ (Takes _ _ _ _) _ (c.consume.ensures ∙ ap (λ (v : Input). v.left) c.self.view_is) c.find.ensures.kept (λ xs r is split.
    takes_line _ _ c.self.inside.taken _ _ xs (ap (λ (v : Input). v.taken) c.self.view_is) c.requires.few c.counted-next-in-Last.ensures.within c.counted-next-in-Last.ensures.over
    (last_line c.find.new.self r xs _ _ (ap length c.bytes.ensures) none some (end_of _ r over is) is split))
