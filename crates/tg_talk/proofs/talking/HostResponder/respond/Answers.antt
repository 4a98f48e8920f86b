use Rattle.tg_talk.proofs.talking.HostResponder.respond.Goals as goal

pub returns-in-None-clause-says : goal.returns-in-None-clause-says
returns-in-None-clause-says g c = rw c.in-None.is c.hear.ensures.told

pub returns-in-Some-clause-says : goal.returns-in-Some-clause-says
returns-in-Some-clause-says g c = rw c.in-Some.is c.hear_session.ensures.heard
