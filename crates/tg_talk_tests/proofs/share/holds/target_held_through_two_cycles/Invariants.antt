use Rattle.tg_talk_tests.proofs.share.holds.target_held_through_two_cycles.Given as goal

abbrev pub ghosts-hold_a_target : goal.ghosts-hold_a_target
ghosts-hold_a_target g a = record { name = a.blank.name; parts = a.blank.parts }
