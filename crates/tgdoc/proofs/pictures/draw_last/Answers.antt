use Rattle.std.proofs.Common.{◌≡◌, ◌+◌, true, false, sym, subst, arith}
use Rattle.tg_draw.specs.Promise.Picture.{Draws}
use Rattle.tgdoc.specs.Promise.Drawings.{drawn, ends_label, not_drawn}
use Rattle.tgdoc.proofs.pictures.draw_last.Goals as goal

pub returns-in-Err-clause-written : goal.returns-in-Err-clause-written
returns-in-Err-clause-written g c = record {
  text = c.error_line-text.result.now;
  written = record { is_error = true; written = not_drawn c.error_line-text.ensures; lines = c.finish.ensures.lines; errors = c.finish.ensures.errors; fault = c.finish.ensures.fault };
  sent = c.finish.ensures.sent;
}

pub returns-in-Ok-clause-written : goal.returns-in-Ok-clause-written
returns-in-Ok-clause-written g c =
    let text = c.as_slice-text.result.now in
    let same : c.finish-in-Ok.result.errors ≡ c.args.ended.errors + 0 = omega (arith, c.finish-in-Ok.ensures.errors) in
    record {
      text = text;
      written = record {
        is_error = false;
        written = drawn (subst (Draws c.args.vault.now (ends_label c.args.ended.lines c.args.ended.errors)) (sym c.as_slice-text.ensures.value) c.in-Ok.ensures);
        lines = c.finish-in-Ok.ensures.lines;
        errors = same;
        fault = c.finish-in-Ok.ensures.fault;
      };
      sent = c.finish-in-Ok.ensures.sent;
    }
