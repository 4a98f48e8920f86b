use Rattle.tg_talk_tests.proofs.talk.gates.a_talk_is_gated.Given as goal

abbrev pub ghosts-talk_counted : goal.ghosts-talk_counted
ghosts-talk_counted g a = record { name = a.blank.name; parts = a.blank.parts }
