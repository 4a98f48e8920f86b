use Rattle.tgdoc.proofs.run.draw_lines.Goals as goal

pub returns-clause-drew : goal.returns-clause-drew
returns-clause-drew g c = c.take_lines.ensures.ran
