use Rattle.std.proofs.Common.{◌≡◌, length}
use Rattle.std.specs.Io.KnownBytes.{Keeps}
use Rattle.tg_talk.proofs.steady.SteadyRead.read.Given as goal

abbrev pub invariant-tries : goal.invariant-tries
invariant-tries g l = record {
  kept : Keeps (g.R.Read.remaining l.fn.self.device) (g.R.Read.remaining l.self.device);
  room : length l.buf ≡ length l.fn.buf;
}
