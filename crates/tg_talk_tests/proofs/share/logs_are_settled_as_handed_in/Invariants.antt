use Rattle.tg_talk_tests.proofs.share.logs_are_settled_as_handed_in.Given as goal

abbrev pub ghosts-close_two : goal.ghosts-close_two
ghosts-close_two g a = record { name = a.blank.name; parts = a.blank.parts }
