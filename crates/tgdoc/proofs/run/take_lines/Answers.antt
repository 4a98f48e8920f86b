use Rattle.std.proofs.Common.{[], None, subst}
use Rattle.tg_talk.proofs.TakingLemmas.{always, at_start}
use Rattle.tg_talk.specs.Promise.Taking.{Takes}
use Rattle.tg_talk.specs.declared.input_lines.Next.TheVariants as next
use Rattle.tgdoc.specs.Inner.Outputs.{Told}
use Rattle.tg_talk.specs.Promise.Opening.{OpensVault, RefusesOpening}
use Rattle.tgdoc.specs.Promise.Runs.{InputRan, no_buffer, stopped}
use Rattle.tg_talk.proofs.SendsLemmas.{sends_nothing}
use Rattle.tg_talk.proofs.OpeningLemmas.{empty_line}
use Rattle.tgdoc.proofs.OpeningLemmas.{ran_no_line, ran_too_long, ran_refused, ran_opened}
use Rattle.tgdoc.proofs.run.take_lines.Goals as goal

pub returns-in_default-clause-ran : goal.returns-in_default-clause-ran
returns-in_default-clause-ran g c = rw c.none_taken.ensures (always _ (InputRan (Told c.args.how) _ _ _ _) (λ xs. record { before = []; last = []; run = no_buffer; sent = sends_nothing _ _ }))

pub returns-in-Failed-clause-ran : goal.returns-in-Failed-clause-ran
returns-in-Failed-clause-ran g c = rw c.none_taken-in-Failed.ensures (always _ (InputRan (Told c.args.how) _ _ _ _) (λ xs. record { before = []; last = []; run = stopped; sent = sends_nothing _ _ }))

pub returns-in-End-clause-ran : goal.returns-in-End-clause-ran
returns-in-End-clause-ran g c =
    at_start _ _ (Takes next.End 0 [] None) (InputRan (Told c.args.how) _ _ _ _) c.in-Ok.ensures c.in-End.ensures.takes (λ xs over.
    ran_no_line (Told c.args.how) _ _ _ _ xs _ over (rw c.error_line.ensures empty_line) (c.finish.ensures.lines, c.finish.ensures.errors) c.finish.ensures.fault c.finish.ensures.sent)

pub returns-in-TooLong-clause-ran : goal.returns-in-TooLong-clause-ran
returns-in-TooLong-clause-ran g c =
    at_start _ _ (Takes next.TooLong _ [] None) (InputRan (Told c.args.how) _ _ _ _) c.in-Ok.ensures c.in-TooLong.ensures.takes (λ xs (within, (line, has, long)).
    ran_too_long (Told c.args.how) _ _ _ _ xs _ line has long c.error_line-in-TooLong.ensures (c.finish-in-TooLong.ensures.lines, c.finish-in-TooLong.ensures.errors) c.finish-in-TooLong.ensures.fault c.finish-in-TooLong.ensures.sent)

pub returns-in-Err-clause-ran : goal.returns-in-Err-clause-ran
returns-in-Err-clause-ran g c =
    at_start _ _ (Takes next.Line _ _ _) (InputRan (Told c.args.how) _ _ _ _) c.in-Ok.ensures c.in-Line.ensures.takes (λ xs (within, takes).
    ran_refused (Told c.args.how) _ _ _ _ xs _ _ _ takes c.in-Line.ensures.short (subst (λ line. RefusesOpening line c.in-Err.text.now) c.line.ensures c.in-Err.ensures.err)
    (c.finish-in-Err.ensures.lines, c.finish-in-Err.ensures.errors) c.finish-in-Err.ensures.fault c.finish-in-Err.ensures.sent)

pub returns-in-Ok-open_vault-clause-ran : goal.returns-in-Ok-open_vault-clause-ran
returns-in-Ok-open_vault-clause-ran g c =
    at_start _ _ (Takes next.Line _ _ _) (InputRan (Told c.args.how) _ _ _ _) c.in-Ok.ensures c.in-Line.ensures.takes (λ xs (within, takes).
    ran_opened (Told c.args.how) c.courses_have_the_headline.ensures _ _ _ _ xs _ _ c.in-Ok-open_vault.vault takes c.in-Line.ensures.short (subst (λ line. OpensVault line c.in-Ok-open_vault.vault) c.line.ensures c.in-Ok-open_vault.ensures.ok)
    c.take_rest.ensures.told)

pub take_rest-requires-clause-opens : goal.take_rest-requires-clause-opens
take_rest-requires-clause-opens g c = subst (λ line. OpensVault line c.in-Ok-open_vault.vault) c.line.ensures c.in-Ok-open_vault.ensures.ok
