use Rattle.tg_marking.proofs.MutatorLemmas.{steps_mutate}
use Rattle.tg_marking.proofs.RunLemmas.{complete, settles}
use Rattle.tg_marking.proofs.runs_are_complete.Goals as goal

pub returns : goal.returns
returns c = record { complete = complete; settles = settles; mutates = steps_mutate }
