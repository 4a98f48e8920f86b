use Rattle.tg_talk_tests.proofs.share.shading.a_target_is_a_root_in_the_gate.Given as goal

abbrev pub ghosts-collect_in_the_gate : goal.ghosts-collect_in_the_gate
ghosts-collect_in_the_gate g a = record { name = a.blank.name; parts = a.blank.parts }
