use Rattle.tg_talk_tests.proofs.share.steps_and_pauses_are_counted.Given as goal

abbrev pub ghosts-is_as_counted : goal.ghosts-is_as_counted
ghosts-is_as_counted g a = record { name = a.blank.name; parts = a.blank.parts }
