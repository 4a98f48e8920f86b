use Rattle.std.specs.Io.KnownBytes.{Keeps}
use Rattle.tg_talk.proofs.steady.SteadyWrite.write.Given as goal

abbrev pub invariant-tries : goal.invariant-tries
invariant-tries g l = Keeps (g.W.Write.contents l.fn.self.device) (g.W.Write.contents l.self.device)
