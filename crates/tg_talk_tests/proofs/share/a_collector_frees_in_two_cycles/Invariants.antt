use Rattle.tg_talk_tests.proofs.share.a_collector_frees_in_two_cycles.Given as goal

abbrev pub ghosts-collect_after : goal.ghosts-collect_after
ghosts-collect_after g a = record { name = a.blank.name; parts = a.blank.parts }
