use Rattle.std.specs.Net.Text.{socket_text}
use Rattle.tg_serve.proofs.telling.announce.Goals as goal

pub returns-in-Ok-write-clause-announced : goal.returns-in-Ok-write-clause-announced
returns-in-Ok-write-clause-announced g c unfailed = record { address = socket_text c.in-Ok.address; appended = c.in-Ok-write.ensures.bytes }
