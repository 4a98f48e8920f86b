use Rattle.std.proofs.Common.{◌≡◌, ◌-◌, length, true, false}
use Rattle.std.specs.Io.KnownBytes.{Keeps, prepend_known}
use Rattle.tg_talk.specs.Promise.Finding.{is_decided}
use Rattle.tg_talk.proofs.line_buffer.LineBuffer.find.Given as goal

abbrev pub invariant-loop-self : goal.invariant-loop-self
invariant-loop-self g l = (l.reader.failed ≡ false)
    × Keeps (prepend_known l.fn.self (g.R.Read.remaining l.fn.reader.device)) (prepend_known l.self (g.R.Read.remaining l.reader.device))
    × (is_decided l.fn.self ≡ true → (l.self ≡ l.fn.self) × (l.reader ≡ l.fn.reader))

abbrev pub decreases-loop-self : goal.decreases-loop-self
decreases-loop-self g l = 16385 - length l.self
