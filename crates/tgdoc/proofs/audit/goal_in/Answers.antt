use Rattle.std.proofs.Common.{refl}
use Rattle.tg_wire.specs.Promise.Lines.{goal_of}
use Rattle.tgdoc.proofs.AuditLemmas.{misreads}
use Rattle.tgdoc.proofs.audit.goal_in.Goals as goal

pub returns-in-Err-clause-err : goal.returns-in-Err-clause-err
returns-in-Err-clause-err c = λ n. (refl, misreads goal_of c.args.bytes.now c.in-Err.fault c.in-Err.ensures.answered)
