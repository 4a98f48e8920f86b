use Rattle.tg_audit.proofs.CountingLemmas.{agreed_counts}
use Rattle.tg_audit.proofs.agreed_counts.Goals as goal

pub returns : goal.returns
returns c = agreed_counts
