use Rattle.tg_talk_tests.proofs.share.growths.growth_refused_in_a_submit.Given as goal

abbrev pub ghosts-play_again : goal.ghosts-play_again
ghosts-play_again g a = record { name = a.blank.name; parts = a.blank.parts }
