use Rattle.tg_audit.proofs.DerivedLemmas.{history_derives}
use Rattle.tg_audit.proofs.histories_derive.Goals as goal

pub returns : goal.returns
returns c = history_derives
