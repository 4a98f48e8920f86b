use Rattle.tg_talk_tests.proofs.share.growths.growth_refused_in_a_close.Given as goal

abbrev pub ghosts-close_again : goal.ghosts-close_again
ghosts-close_again g a = record { name = a.blank.name; parts = a.blank.parts }
