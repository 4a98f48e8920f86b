use Rattle.std.proofs.Common.{◌≡◌, ◌≤◌, ◌-◌, false, IfSome}
use Rattle.std.specs.Io.KnownBytes.{prepend_known}
use Rattle.tg_talk.specs.Inner.Answering.{Continues, point}
use Rattle.tg_talk.specs.Promise.Devices.{device_of, has_failed, promised}
use Rattle.tg_talk.specs.declared.line_buffer.TheConstants.{MOST_LINES}
use Rattle.tg_talk.proofs.answering.answer_lines.Given as goal

abbrev pub invariant-turns : goal.invariant-turns
invariant-turns g l = record {
  few : l.lines.input.taken ≤ MOST_LINES;
  errors : l.lines.errors ≤ l.lines.input.taken;
  reads : has_failed l.reader ≡ false;
  writes : has_failed l.writer ≡ false;
  stays : g.S.Responder.stays l.fn.responder l.responder;
  so_far : IfSome (prepend_known l.fn.input.left (g.D.Read.remaining (device_of l.fn.reader))) (Continues g.S.Responder.says
      (point l.fn.responder l.fn.input.taken 0 (prepend_known l.fn.input.left (g.D.Read.remaining (device_of l.fn.reader))) (promised g.W.Write.contents l.fn.writer))
      (point l.responder l.lines.input.taken l.lines.errors (prepend_known l.lines.input.left (g.D.Read.remaining (device_of l.reader))) (promised g.W.Write.contents l.writer)));
}

abbrev pub decreases-turns : goal.decreases-turns
decreases-turns g l = MOST_LINES - l.lines.input.taken
