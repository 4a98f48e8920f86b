use Rattle.std.proofs.Common.{◌∙◌, ◌≤◌, ◌+◌, ap, drop, length, arith}
use Rattle.tg_talk.proofs.KnownBytesLemmas.{view_consumed, view_length}
use Rattle.tg_talk.proofs.line_buffer.LineBuffer.consume.Goals as goal

pub returns : goal.returns
returns c =
    let within : c.self.inside.start + c.args.n ≤ c.self.inside.end = omega (arith, view_length c.self.inside.bytes.items c.self.inside.start c.self.inside.end, ap length c.self.view_is, c.self.invariant.0) in
    view_consumed c.self.inside.bytes.items c.self.inside.start c.self.inside.end c.args.n c.self.invariant.0 within ∙ ap (drop c.args.n) c.self.view_is
