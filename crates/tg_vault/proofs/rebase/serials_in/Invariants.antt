use Rattle.std.proofs.Common.{◌≡◌, map, take}
use Rattle.tg_graph.specs.Promise.Parts.{Listed}
use Rattle.tg_vault.proofs.rebase.serials_in.Given as goal

abbrev pub invariant-loop-vertex : goal.invariant-loop-vertex
invariant-loop-vertex l = l.found.items ≡ map (λ (v : Listed). v.0) (take l.vertex-index l.vertices)
