use Rattle.tg_talk.specs.Promise.Opening.{unsound}
use Rattle.tg_talk.proofs.OpeningLemmas.{refuses_fault}
use Rattle.tg_talk.proofs.opening.open_vault.Goals as goal

pub returns-in-Err-clause-err : goal.returns-in-Err-clause-err
returns-in-Err-clause-err c = rw c.error_line.ensures (refuses_fault c.args.line.now c.in-Err.fault c.in-Err.ensures.answered)

pub returns-in-Err-with_key-clause-err : goal.returns-in-Err-with_key-clause-err
returns-in-Err-with_key-clause-err c = unsound c.in-Ok.config c.in-Err-with_key.fault c.in-Ok.ensures.answered c.in-Err-with_key.ensures.err c.open_fault_line.ensures
