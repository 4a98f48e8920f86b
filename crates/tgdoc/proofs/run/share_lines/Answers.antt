use Rattle.tgdoc.proofs.run.share_lines.Goals as goal

pub returns-clause-shared : goal.returns-clause-shared
returns-clause-shared g c = c.take_lines.ensures.ran
