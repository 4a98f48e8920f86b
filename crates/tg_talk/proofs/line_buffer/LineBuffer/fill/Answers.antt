use Rattle.std.proofs.Common.{◌≡◌, ◌+◌, ◌-◌, ◌∙◌, take, drop, subst, sym, ap, arith}
use Rattle.std.proofs.lemmas.List.{take-take}
use Rattle.std.specs.Io.KnownBytes.{Keeps, prepend_known}
use Rattle.tg_talk.specs.Inner.InputLines.{EndsLines}
use Rattle.tg_talk.proofs.InputLinesLemmas.{ends_moved_front}
use Rattle.tg_talk.proofs.KnownBytesLemmas.{Keeps-consumed, front_grown}
use Rattle.tg_talk.proofs.line_buffer.LineBuffer.fill.Goals as goal

pub returns-in-Some-clause-kept : goal.returns-in-Some-clause-kept
returns-in-Some-clause-kept g c =
    let pending = c.self.inside.end - c.self.inside.start in
    let buffer = c.read_at.new.bytes.items in
    let taken = take c.in-Some.n (drop pending buffer) in
    let front : take pending buffer ≡ c.args.self.now = c.in-Some.ensures.front ∙ c.move_down.ensures.front ∙ c.self.view_is in
    subst (λ v. Keeps (prepend_known c.args.self.now (g.R.Read.remaining c.args.reader.now.device)) (prepend_known v (g.R.Read.remaining c.read_at.new.reader.device)))
    (front_grown buffer c.args.self.now pending c.in-Some.n front)
    (Keeps-consumed c.args.self.now _ _ taken c.in-Some.ensures.consumed)

pub invariant_of-self : goal.invariant_of-self
invariant_of-self g c =
    let b = c.self.inside in
    let ends = ends_moved_front b.bytes.items c.read_at.new.bytes.items b.start b.end b.lines_to (omega arith) c.self.invariant.3 (c.in-None.ensures.front ∙ c.move_down.ensures.front) in
    (omega arith, omega arith, omega arith, subst (EndsLines (take (b.end - b.start) c.read_at.new.bytes.items)) (sym c.saturating_sub-self-inside.ensures) ends)

pub invariant_of-self-in-Some-eq0 : goal.invariant_of-self-in-Some-eq0
invariant_of-self-in-Some-eq0 g c =
    let b = c.self.inside in
    let ends = ends_moved_front b.bytes.items c.read_at.new.bytes.items b.start b.end b.lines_to (omega arith) c.self.invariant.3 (c.in-Some-eq0.ensures.front ∙ c.move_down.ensures.front) in
    (omega arith, omega arith, omega arith, subst (EndsLines (take (b.end - b.start) c.read_at.new.bytes.items)) (sym c.saturating_sub-self-inside.ensures) ends)

pub last_lines_to-self-inside-requires-clause-known : goal.last_lines_to-self-inside-requires-clause-known
last_lines_to-self-inside-requires-clause-known g c =
    let b = c.self.inside in
    let pending = b.end - b.start in
    let ends = ends_moved_front b.bytes.items c.read_at.new.bytes.items b.start b.end b.lines_to (omega arith) c.self.invariant.3 (c.in-Some.ensures.front ∙ c.move_down.ensures.front) in
    let front : take pending c.read_at.new.bytes.items ≡ take pending (take (pending + c.in-Some.n) c.deref.result.now) =
    ap (take pending) (sym c.deref.ensures.value) ∙ sym (take-take pending (pending + c.in-Some.n) c.deref.result.now (omega arith)) in
    subst (EndsLines (take pending (take (pending + c.in-Some.n) c.deref.result.now))) (sym c.saturating_sub-self-inside.ensures) (subst (λ l. EndsLines l (b.lines_to - b.start)) front ends)
