use Rattle.tg_audit.proofs.OneVerdictLemmas.{some_verdict, verdict_once}
use Rattle.tg_audit.proofs.exactly_one_verdict.Goals as goal

pub returns : goal.returns
returns c = λ G steps aim. let found = some_verdict G steps aim in (found.0, found.1, λ w. verdict_once G steps aim found.0 w found.1)
