use Rattle.tg_talk.proofs.talking.Host.hear.Goals as goal

pub returns-in_default-clause-told : goal.returns-in_default-clause-told
returns-in_default-clause-told g c = rw c.replace.ensures.after c.hear_stranger-text.ensures.told
