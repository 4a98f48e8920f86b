use Rattle.tg_talk_tests.proofs.share.agents.an_agent_outlives_its_last_edge.Given as goal

abbrev pub ghosts-act_for_agent : goal.ghosts-act_for_agent
ghosts-act_for_agent g a = record { name = a.blank.name; parts = a.blank.parts }
