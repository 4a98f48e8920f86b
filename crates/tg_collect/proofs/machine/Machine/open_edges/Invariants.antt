use Rattle.std.proofs.Common.{◌≡◌, ◌+◌}
use Rattle.tg_collect.specs.Inner.Openings.{OpensEdges, KeepsSize, rank}
use Rattle.tg_collect.proofs.machine.Machine.open_edges.Given as goal

-- The pairs of the principals so far are done, and the pairs of this one.
abbrev pub invariant-loop-from : goal.invariant-loop-from
invariant-loop-from l = record {
  roots : l.self.roots ≡ l.fn.self.roots;
  size : KeepsSize l.fn.self l.self;
  opens : OpensEdges l.self l.graph (rank (l.from + 1) 1);
}

abbrev pub invariant-loop-to : goal.invariant-loop-to
invariant-loop-to l = record {
  roots : l.self.roots ≡ l.fn.self.roots;
  size : KeepsSize l.fn.self l.self;
  opens : OpensEdges l.self l.graph (rank (l.from + 1) (l.to + 1));
}
