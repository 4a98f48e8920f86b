use Rattle.std.proofs.Common.{[], ap, sym}
use Rattle.tg_wire.specs.Promise.Faults.{line_text}
use Rattle.tg_wire.specs.Promise.Answers.{denied_step_data}
use Rattle.tg_wire.proofs.ObjectLineLemmas.{said_as}
use Rattle.tg_wire.proofs.write.denied_step_line.Goals as goal

pub returns-in-NameTaken : goal.returns-in-NameTaken
returns-in-NameTaken c =
    said_as c.denied_step_for-in-NameTaken.result _ [] (ap (λ cause. line_text (denied_step_data c.args.step c.args.rule cause)) (sym c.in-NameTaken.is)) c.denied_step_for-in-NameTaken.ensures

pub returns-in-NotSubject : goal.returns-in-NotSubject
returns-in-NotSubject c =
    said_as c.denied_step_at-in-NotSubject.result _ [] (ap (λ cause. line_text (denied_step_data c.args.step c.args.rule cause)) (sym c.in-NotSubject.is)) c.denied_step_at-in-NotSubject.ensures
