use Rattle.tg_talk_tests.proofs.share.sessions_are_given_or_refused.Given as goal

abbrev pub ghosts-faults : goal.ghosts-faults
ghosts-faults g a = record { name = a.blank.name; parts = a.blank.parts }
