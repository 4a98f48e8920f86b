use Rattle.tg_load.proofs.run.run_new.Given as goal

abbrev pub ghosts-run_one : goal.ghosts-run_one
ghosts-run_one g a = record { name = a.blank.name; parts = a.blank.parts }
