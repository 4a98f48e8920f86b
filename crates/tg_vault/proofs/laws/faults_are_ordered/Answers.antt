use Rattle.tg_vault.proofs.FaultLemmas.{faults_are_ordered}
use Rattle.tg_vault.proofs.laws.faults_are_ordered.Goals as goal

pub returns : goal.returns
returns c = faults_are_ordered
