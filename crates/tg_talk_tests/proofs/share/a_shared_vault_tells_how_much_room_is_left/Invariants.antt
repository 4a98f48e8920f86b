use Rattle.tg_talk_tests.proofs.share.a_shared_vault_tells_how_much_room_is_left.Given as goal

abbrev pub ghosts-free_of : goal.ghosts-free_of
ghosts-free_of g a = record { name = a.blank.name; parts = a.blank.parts }
