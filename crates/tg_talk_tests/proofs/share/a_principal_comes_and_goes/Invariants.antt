use Rattle.tg_talk_tests.proofs.share.a_principal_comes_and_goes.Given as goal

abbrev pub ghosts-come_and_go : goal.ghosts-come_and_go
ghosts-come_and_go g a = record { name = a.blank.name; parts = a.blank.parts }
