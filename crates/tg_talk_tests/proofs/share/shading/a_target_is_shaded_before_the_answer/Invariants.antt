use Rattle.tg_talk_tests.proofs.share.shading.a_target_is_shaded_before_the_answer.Given as goal

abbrev pub ghosts-collect_beside : goal.ghosts-collect_beside
ghosts-collect_beside g a = record { name = a.blank.name; parts = a.blank.parts }
