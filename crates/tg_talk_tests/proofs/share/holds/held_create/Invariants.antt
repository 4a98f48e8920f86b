use Rattle.tg_talk_tests.proofs.share.holds.held_create.Given as goal

abbrev pub ghosts-hold_a_create : goal.ghosts-hold_a_create
ghosts-hold_a_create g a = record { name = a.blank.name; parts = a.blank.parts }
