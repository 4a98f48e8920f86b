use Rattle.std.proofs.Common.{◌∙◌, sym}
use Rattle.tg_talk.proofs.SendsLemmas.{sends_more, sends_no_more}
use Rattle.tg_serve.proofs.telling.send_more.Goals as goal

pub returns-then-failed : goal.returns-then-failed
returns-then-failed g c = record { behind = λ start before sent. sends_no_more _ _ _ before c.args.bytes.now (sym c.failed.ensures ∙ c.if-failed.true) sent }

pub returns : goal.returns
returns g c = record { behind = λ start before sent. sends_more _ _ _ _ _ before c.args.bytes.now (sym c.failed.ensures ∙ c.if-failed.false) sent c.send_line.ensures }
