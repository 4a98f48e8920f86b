use Rattle.tg_rights.proofs.LettersLemmas.{are_set_operations}
use Rattle.tg_rights.proofs.operations_are_those_on_sets.Goals as goal

pub returns : goal.returns
returns c = are_set_operations
