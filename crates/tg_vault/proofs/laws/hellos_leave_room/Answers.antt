use Rattle.tg_vault.proofs.MeaningsLemmas.{hellos_leave_room}
use Rattle.tg_vault.proofs.laws.hellos_leave_room.Goals as goal

pub returns : goal.returns
returns c = hellos_leave_room
