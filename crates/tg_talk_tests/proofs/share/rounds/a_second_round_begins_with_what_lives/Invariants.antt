use Rattle.tg_talk_tests.proofs.share.rounds.a_second_round_begins_with_what_lives.Given as goal

abbrev pub ghosts-play_round : goal.ghosts-play_round
ghosts-play_round g a = record { name = a.blank.name; parts = a.blank.parts }
