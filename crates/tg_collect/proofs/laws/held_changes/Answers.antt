use Rattle.tg_collect.proofs.HeldLemmas.{gains, joins, drops, comes}
use Rattle.tg_collect.proofs.laws.held_changes.Goals as goal

pub returns : goal.returns
returns c = record { gains = gains; joins = joins; drops = drops; comes = comes }
