use Rattle.std.proofs.Common.{◌≡◌, [], None, refl, sym, true≢false, ◌∙◌}
use Rattle.tg_talk.proofs.TakingLemmas.{always, at_start}
use Rattle.tg_talk.specs.Promise.Taking.{Takes, TakesLine}
use Rattle.tg_talk.specs.declared.input_lines.Next.TheVariants as next
use Rattle.tg_wire.specs.declared.fault.WireFault.TheVariants as wire
use Rattle.tg_serve.specs.Inner.Serving.{RefusesBytes, no_buffer, stopped}
use Rattle.tg_serve.proofs.ServingLemmas.{bytes_no_line, bytes_too_long, fault_has_text, is_told, line_opens, line_refused, line_told}
use Rattle.tg_serve.proofs.listening.read_vault.Goals as goal

pub returns-in_default-clause-silent : goal.returns-in_default-clause-silent
returns-in_default-clause-silent g c = is_told _ _ (fault_has_text _ wire.OutOfMemory c.error_line.ensures) (λ failed. true≢false (sym failed ∙ c.requires.reads))

pub returns-in_default-clause-refused : goal.returns-in_default-clause-refused
returns-in_default-clause-refused g c = always _ (RefusesBytes _) (λ xs. no_buffer c.error_line.ensures)

pub returns-in-Line-clause-opened : goal.returns-in-Line-clause-opened
returns-in-Line-clause-opened g c =
    let takes = at_start _ _ (Takes next.Line _ _ _) (λ xs. TakesLine _ xs _) c.in-Ok.ensures c.in-Line.ensures.takes (λ xs (within, takes). takes) in
    line_opens _ _ _ _ _ c.line.ensures c.in-Line.ensures.short takes c.open_vault.ensures.ok

pub returns-in-Line-clause-silent : goal.returns-in-Line-clause-silent
returns-in-Line-clause-silent g c = line_told _ _ _ (λ failed. let same : next.Line ≡ next.Failed = c.in-Line.ensures.failed.0 failed in cc) c.open_vault.ensures.err

pub returns-in-Line-clause-refused : goal.returns-in-Line-clause-refused
returns-in-Line-clause-refused g c =
    let takes = at_start _ _ (Takes next.Line _ _ _) (λ xs. TakesLine _ xs _) c.in-Ok.ensures c.in-Line.ensures.takes (λ xs (within, takes). takes) in
    line_refused _ _ _ _ _ c.line.ensures c.in-Line.ensures.short takes c.open_vault.ensures.err

pub returns-in-End-clause-silent : goal.returns-in-End-clause-silent
returns-in-End-clause-silent g c = is_told _ _ (fault_has_text _ wire.NotJson c.error_line-in-End.ensures) (λ failed. let same : next.End ≡ next.Failed = c.in-End.ensures.failed.0 failed in cc)

pub returns-in-End-clause-refused : goal.returns-in-End-clause-refused
returns-in-End-clause-refused g c =
    at_start _ _ (Takes next.End 0 [] None) (RefusesBytes _) c.in-Ok.ensures c.in-End.ensures.takes (λ xs over. bytes_no_line _ xs over c.error_line-in-End.ensures)

pub returns-in-TooLong-clause-silent : goal.returns-in-TooLong-clause-silent
returns-in-TooLong-clause-silent g c =
    is_told _ _ (fault_has_text _ wire.TooLong c.error_line-in-TooLong.ensures) (λ failed. let same : next.TooLong ≡ next.Failed = c.in-TooLong.ensures.failed.0 failed in cc)

pub returns-in-TooLong-clause-refused : goal.returns-in-TooLong-clause-refused
returns-in-TooLong-clause-refused g c =
    at_start _ _ (Takes next.TooLong _ [] None) (RefusesBytes _) c.in-Ok.ensures c.in-TooLong.ensures.takes (λ xs (within, (line, has, long)). bytes_too_long _ xs line has long c.error_line-in-TooLong.ensures)

pub returns-clause-refused : goal.returns-clause-refused
returns-clause-refused g c = always _ (RefusesBytes _) (λ xs. stopped refl)
