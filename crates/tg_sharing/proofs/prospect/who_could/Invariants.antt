use Rattle.std.proofs.Common.{take}
use Rattle.tg_sharing.specs.Promise.Prospects.{AreCould}
use Rattle.tg_sharing.proofs.prospect.who_could.Given as goal

-- each vertex so far is listed
abbrev pub invariant-loop-vertex : goal.invariant-loop-vertex
invariant-loop-vertex l = AreCould l.graph l.rights l.to (take l.vertex-index l.asked) l.found.items
