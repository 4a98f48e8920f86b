use Rattle.tg_talk_tests.proofs.share.races.take_while_the_other_edge_is_removed.Given as goal

abbrev pub ghosts-race : goal.ghosts-race
ghosts-race g a = record { name = a.blank.name; parts = a.blank.parts }
