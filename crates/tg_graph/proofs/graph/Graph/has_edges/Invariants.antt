use Rattle.std.proofs.Common.{◌≡◌, ◌≤◌, ◌++◌, take, length}
use Rattle.tg_graph.specs.Promise.Rules.{edges_of}
use Rattle.tg_graph.proofs.EdgesOfLemmas.{told}
use Rattle.tg_graph.proofs.graph.Graph.has_edges.Given as goal

-- the edges so far, which are listed, and those that the remaining labels describe
abbrev pub invariant-loop-serial : goal.invariant-loop-serial
invariant-loop-serial l = record {
  within : l.at ≤ length l.listed;
  edges : take l.at l.listed ++ told l.serial-iterator ≡ edges_of l.self l.of;
}
