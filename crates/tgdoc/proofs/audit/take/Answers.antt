use Rattle.std.proofs.Common.{[], None, arith}
use Rattle.tg_talk.proofs.TakingLemmas.{always, weaker}
use Rattle.tg_talk.specs.Promise.Taking.{Takes}
use Rattle.tg_talk.specs.declared.input_lines.Next.TheVariants as next
use Rattle.tgdoc.specs.Inner.Auditing.{EndsBytes, NoRefusal}
use Rattle.tgdoc.proofs.AuditLemmas.{ends_long, ends_many, ends_stopped}
use Rattle.tgdoc.proofs.audit.take.Goals as goal

pub returns-in-TooLong-clause-err : goal.returns-in-TooLong-clause-err
returns-in-TooLong-clause-err g c =
    weaker _ (Takes next.TooLong _ [] None) (EndsBytes _ _ _ _) c.in-TooLong.ensures.takes (λ xs (within, (line, has, long)). ends_long NoRefusal _ _ _ xs line c.in-TooLong.ensures.count within has long)

pub returns-in-TooMany-clause-err : goal.returns-in-TooMany-clause-err
returns-in-TooMany-clause-err g c =
    weaker _ (Takes next.TooMany _ [] None) (EndsBytes _ _ _ _) c.in-TooMany.ensures.takes (λ xs (full, (line, has)). ends_many NoRefusal _ _ _ xs line c.in-TooMany.ensures.count full has)

pub returns-in-Failed-clause-err : goal.returns-in-Failed-clause-err
returns-in-Failed-clause-err g c = always _ (EndsBytes _ _ _ _) (λ xs. ends_stopped NoRefusal _ _ _ xs (omega (arith, c.in-Failed.ensures.count)))
