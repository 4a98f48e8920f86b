use Rattle.tg_serve.proofs.tests.pace.sessions_alone_keep_pace.Given as goal

abbrev pub ghosts-made_and_dropped : goal.ghosts-made_and_dropped
ghosts-made_and_dropped g a = record { name = a.blank.name; parts = a.blank.parts }
