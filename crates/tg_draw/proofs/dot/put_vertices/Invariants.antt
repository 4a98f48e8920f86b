use Rattle.std.proofs.Common.{◌≡◌, ◌++◌, drop}
use Rattle.std.specs.List.{flat_map}
use Rattle.tg_draw.specs.Promise.Picture.{vertex_text}
use Rattle.tg_draw.proofs.dot.put_vertices.Given as goal

-- the text so far and that of the vertices that are left are those of all
abbrev pub invariant-loop-vertex : goal.invariant-loop-vertex
invariant-loop-vertex l = l.out.items ++ flat_map (vertex_text l.names l.seats) (drop l.vertex-index l.vertices) ≡ l.fn.out.items ++ flat_map (vertex_text l.names l.seats) l.vertices
