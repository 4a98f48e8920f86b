use Rattle.std.proofs.Common.{refl}
use Rattle.tgdoc.specs.Inner.Auditing.{NoRefusal}
use Rattle.tgdoc.proofs.AuditLemmas.{ends_bytes, passed, wanted_is_missing, wanted_is_taken}
use Rattle.tgdoc.proofs.audit.take_wanted.Goals as goal

pub returns-in_err-more-clause-err : goal.returns-in_err-more-clause-err
returns-in_err-more-clause-err g c = passed _ c.in_err-more.field-0.0 _ c.from_residual.ensures.1 (ends_bytes NoRefusal _ _ _ _ _ (λ _. refl) c.in_err-more.ensures.err)

pub returns-then-more-clause-ok : goal.returns-then-more-clause-ok
returns-then-more-clause-ok g c = wanted_is_taken _ _ _ _ _ _ c.if-more.true c.in_ok-more.ensures.few.0 c.in_ok-more.ensures.few.1 c.in_ok-more.ensures.short c.in_ok-more.ensures.ok

pub returns-else-more-clause-err : goal.returns-else-more-clause-err
returns-else-more-clause-err g c = wanted_is_missing _ _ _ _ _ _ _ c.if-more.false c.in_ok-more.ensures.few.0 refl c.in_ok-more.ensures.ok
