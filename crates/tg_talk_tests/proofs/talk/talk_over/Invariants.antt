use Rattle.tg_talk_tests.proofs.talk.talk_over.Given as goal

abbrev pub ghosts-talk_alone : goal.ghosts-talk_alone
ghosts-talk_alone g a = record { name = a.blank.name; parts = a.blank.parts }
