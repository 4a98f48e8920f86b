use Rattle.std.proofs.Common.{◌∙◌, [], Some, refl, subst, sym}
use Rattle.tg_talk.proofs.TakingLemmas.{always, at_start}
use Rattle.tg_talk.specs.declared.fault.TalkFault.TheVariants.{OutOfMemory}
use Rattle.tgdoc.specs.Promise.Audits.{BytesAudited, no_buffer}
use Rattle.tgdoc.specs.Inner.Auditing.{EndsEarlyBytes, Judges, end_after}
use Rattle.tgdoc.proofs.AuditLemmas.{audited_early, audited_whole}
use Rattle.tg_talk.proofs.SendsLemmas.{sends_none}
use Rattle.tgdoc.proofs.audit.audit_lines.Goals as goal

pub returns-in_default-clause-audited : goal.returns-in_default-clause-audited
returns-in_default-clause-audited g c =
    rw c.none_taken.ensures (always _ (BytesAudited _ _ _ _) (λ xs. record {
      whole = record { lines = 0; errors = 0; fault = Some OutOfMemory };
      text = [];
      audited = no_buffer;
      lines = refl;
      errors = refl;
      fault = rw c.requires.writes refl;
      sent = sends_none _ _;
    }))

pub returns-in-Ok-judge-clause-audited : goal.returns-in-Ok-judge-clause-audited
returns-in-Ok-judge-clause-audited g c =
    let (text, tells, sent) = c.answer.ensures.answered in
    at_start _ _ (Judges _ _) (BytesAudited _ _ _ _) c.in-Ok.ensures c.in-Ok-judge.ensures.ok
    (λ xs j. audited_whole _ _ _ _ c.in-Ok-judge.verdict _ text xs (c.answer.ensures.lines ∙ c.taken.ensures) c.answer.ensures.fault tells sent j)

pub returns-clause-audited : goal.returns-clause-audited
returns-clause-audited g c =
    at_start _ _ (EndsEarlyBytes _) (BytesAudited _ _ _ _) c.in-Ok.ensures c.in-Err.ensures.err
    (λ xs ends. audited_early _ _ _ _ c.in-Err.ending _ xs c.end.ensures.lines c.end.ensures.errors c.end.ensures.fault c.end.ensures.sent
    (subst (λ n. EndsEarlyBytes (end_after c.in-Err.ending n) xs) (sym c.taken-in-Err.ensures) ends))
