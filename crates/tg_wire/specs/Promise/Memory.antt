-- Which lines may need memory when they are written: so these alone can fail for want of it.
use Rattle.std.specs.Prelude.{⊤}
use Rattle.tg_rights.specs.declared.outcome.Reply.{Reply}
use Rattle.tg_rights.specs.declared.outcome.Reply.TheVariants as reply
use Rattle.tg_vault.specs.declared.event.Answer.{Answer}
use Rattle.tg_vault.specs.declared.event.Answer.TheVariants as answer

abbrev pub MayAskForReply : Reply → Type 0
MayAskForReply reply.Done = ⊥
MayAskForReply (reply.Created vertex) = ⊥
MayAskForReply (reply.Denied rule why) = ⊥
MayAskForReply _ = ⊤

abbrev pub MayAskForAnswer : Answer → Type 0
MayAskForAnswer (answer.Hello vertex) = ⊥
MayAskForAnswer answer.Bye = ⊥
MayAskForAnswer (answer.Shaded target) = ⊥
MayAskForAnswer (answer.Noted note) = ⊥
MayAskForAnswer (answer.Asked number reply) = MayAskForReply reply
MayAskForAnswer _ = ⊤
