use Rattle.std.proofs.Common.{◌≡◌, ◌++◌, drop}
use Rattle.std.specs.List.{flat_map}
use Rattle.tg_draw.specs.Promise.Picture.{edge_text}
use Rattle.tg_draw.proofs.dot.put_edges.Given as goal

-- the text so far and that of the edges that are left are those of all
abbrev pub invariant-loop-edge : goal.invariant-loop-edge
invariant-loop-edge l = l.out.items ++ flat_map edge_text (drop l.edge-index l.edges) ≡ l.fn.out.items ++ flat_map edge_text l.edges
