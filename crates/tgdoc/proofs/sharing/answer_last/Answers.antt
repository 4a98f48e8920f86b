use Rattle.std.proofs.Common.{true}
use Rattle.tgdoc.proofs.SharingLemmas.{no_memory}
use Rattle.tgdoc.proofs.sharing.answer_last.Goals as goal

pub returns-in-Err-clause-written : goal.returns-in-Err-clause-written
returns-in-Err-clause-written g c = record {
  text = c.error_line-text.result.now;
  written = record { is_error = true; written = no_memory c.args.vault.now c.args.question.now c.error_line-text.result.now c.error_line-text.ensures; lines = c.finish.ensures.lines; errors = c.finish.ensures.errors; fault = c.finish.ensures.fault };
  sent = c.finish.ensures.sent;
}
