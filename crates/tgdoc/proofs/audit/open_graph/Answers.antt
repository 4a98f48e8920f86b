use Rattle.std.proofs.Common.{refl}
use Rattle.tg_talk.specs.Promise.Opening.{unsound}
use Rattle.tg_talk.proofs.OpeningLemmas.{refuses_fault}
use Rattle.tgdoc.proofs.audit.open_graph.Goals as goal

pub returns-in-Err-clause-err : goal.returns-in-Err-clause-err
returns-in-Err-clause-err c = λ n. (refl, refuses_fault c.args.bytes.now c.in-Err.fault c.in-Err.ensures.answered)

pub returns-in-Err-build-clause-err : goal.returns-in-Err-build-clause-err
returns-in-Err-build-clause-err c = λ n. (refl, unsound c.in-Ok.config c.in-Err-build.fault c.in-Ok.ensures.answered c.in-Err-build.ensures.err refl)
