use Rattle.std.proofs.Common.{take}
use Rattle.tg_graph.specs.Promise.Derivations.{Derives}
use Rattle.tg_audit.proofs.derivations.check.Given as goal

abbrev pub invariant-loop-index : goal.invariant-loop-index
invariant-loop-index l = Derives l.fn.graph (take l.index l.steps) l.graph
