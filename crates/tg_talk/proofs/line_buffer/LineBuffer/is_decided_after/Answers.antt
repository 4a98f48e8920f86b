use Rattle.std.proofs.Common.{◌≡◌, ◌+◌, ◌-◌, ◌||◌, ◌∙◌, drop, nat_lt, ap, sym, arith}
use Rattle.tg_talk.specs.Promise.Finding.{is_decided}
use Rattle.tg_talk.proofs.InputLinesLemmas.{decided_at}
use Rattle.tg_talk.proofs.line_buffer.LineBuffer.is_decided_after.Goals as goal

pub returns-then-from-self : goal.returns-then-from-self
returns-then-from-self c =
    let b = c.self.inside in
    let from = b.start + c.args.n in
    let first : nat_lt from b.lines_to ≡ (nat_lt from b.lines_to || nat_lt 16384 (b.end - from)) = grind (arith, c.if-from-self.true) in
    first ∙ sym (decided_at b.bytes.items b.start b.end b.lines_to c.args.n (omega arith) (omega arith) c.self.invariant.3) ∙ ap (λ l. is_decided (drop c.args.n l)) c.self.view_is

pub returns-else-from-self : goal.returns-else-from-self
returns-else-from-self c =
    let b = c.self.inside in
    let from = b.start + c.args.n in
    let second : nat_lt 16384 (b.end - from) ≡ (nat_lt from b.lines_to || nat_lt 16384 (b.end - from)) = grind (arith, c.if-from-self.false) in
    second ∙ sym (decided_at b.bytes.items b.start b.end b.lines_to c.args.n (omega arith) (omega arith) c.self.invariant.3) ∙ ap (λ l. is_decided (drop c.args.n l)) c.self.view_is
