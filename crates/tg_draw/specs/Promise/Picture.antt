-- a scene as text, in the DOT language of Graphviz: one line, with each vertex of the scene once and each edge once
use Rattle.std.specs.Prelude.{◌≡◌, ℕ, ◌==◌, List, [], ◌++◌, Option, Some, None, codes, decimal, if◌then◌else◌}
use Rattle.std.specs.List.{flat_map}
use Rattle.tg_rights.specs.Promise.Written.{rights_text}
use Rattle.tg_graph.specs.Promise.Opening.{ListedEdge}
use Rattle.tg_graph.specs.declared.member.Member.{Member}
use Rattle.tg_collect.specs.declared.figures.Figure.{Figure}
use Rattle.tg_collect.specs.declared.note.Phase.{Phase}
use Rattle.tg_vault.specs.declared.scene.Scene.{Scene}
use Rattle.tg_vault.specs.declared.scene.Sitting.{Sitting}
use Rattle.tg_vault.specs.Promise.Contents.{Contents}
use Rattle.tg_vault.specs.Promise.Scenes.{IsScene}
use Rattle.tg_draw.specs.Promise.Label.{label_text}
use Rattle.tg_draw.specs.Promise.Words.{before_cells, before_label, before_slots, before_vertices, colour_word, held_word, kind_word, phase_word, rim, style}

-- ---- the label, after the rows that are given

abbrev pub counts_text : (slots cells : ℕ) → List ℕ
counts_text slots cells = before_slots ++ decimal slots ++ before_cells ++ decimal cells

-- the phase, and how many slots and cells are free
abbrev pub state_text : Phase → (slots cells : ℕ) → List ℕ
state_text phase slots cells = codes "phase " ++ phase_word phase ++ counts_text slots cells ++ codes "\\l"

-- who sits on a seat, also if it has no slot any longer
abbrev pub seat_row : ℕ → ℕ → List ℕ
seat_row seat principal = codes "seat " ++ decimal seat ++ codes ": " ++ decimal principal ++ codes "\\l"

abbrev pub seat_text : Sitting → List ℕ
seat_text s = seat_row s.seat s.principal

-- ---- a vertex: its serial, its name if it is a principal, its colour, and for which seats it is the principal, the agent
-- or the pending target

abbrev pub name_text : ℕ → Member → List ℕ
name_text x m = if m.serial == x then codes " " ++ m.name else []

abbrev pub mark_if : List ℕ → ℕ → Option ℕ → ℕ → List ℕ
mark_if word seat None x = []
mark_if word seat (Some y) x = if y == x then word ++ decimal seat else []

abbrev pub mark_text : ℕ → Sitting → List ℕ
mark_text x s = mark_if (codes "\\nseat ") s.seat (Some s.principal) x ++ mark_if (codes "\\nagent ") s.seat s.agent x ++ mark_if (codes "\\ntarget ") s.seat s.target x

-- the rows in it
abbrev pub vertex_label : List Member → List Sitting → Figure → List ℕ
vertex_label names seats f = decimal f.serial ++ flat_map (name_text f.serial) names ++ codes "\\n" ++ colour_word f.colour ++ flat_map (mark_text f.serial) seats

-- what it is, for a reader
abbrev pub vertex_class : Figure → List ℕ
vertex_class f = kind_word f.kind ++ codes " " ++ colour_word f.colour ++ held_word f.is_held

abbrev pub vertex_look : Figure → List ℕ
vertex_look f = codes "\",class=\"" ++ vertex_class f ++ codes "\"," ++ style f.kind f.is_held ++ rim f.colour

abbrev pub vertex_text : List Member → List Sitting → Figure → List ℕ
vertex_text names seats f = codes " " ++ decimal f.serial ++ codes " [label=\"" ++ vertex_label names seats f ++ vertex_look f ++ codes "];"

-- ---- an edge, with the letters of its rights

abbrev pub ends_text : ℕ → ℕ → List ℕ
ends_text from to = codes " " ++ decimal from ++ codes " -> " ++ decimal to

abbrev pub edge_text : ListedEdge → List ℕ
edge_text e = ends_text e.0 e.2 ++ codes " [label=\"" ++ rights_text e.1 ++ codes "\"];"

-- ---- all of it

-- what comes before the vertices, and all that follows
unfoldable pub head_text : List ℕ → Phase → (slots cells : ℕ) → List Sitting → List ℕ
head_text label phase slots cells seats =
    before_label ++ label_text label ++ state_text phase slots cells ++ flat_map seat_text seats

unfoldable pub body_text : List Member → List Sitting → List Figure → List ListedEdge → List ℕ
body_text names seats vertices edges =
    before_vertices ++ flat_map (vertex_text names seats) vertices ++ flat_map edge_text edges ++ codes " }\n"

unfoldable pub picture_of : List ℕ → Phase → (slots cells : ℕ) → List Member → List Sitting → List Figure → List ListedEdge → List ℕ
picture_of label phase slots cells names seats vertices edges = head_text label phase slots cells seats ++ body_text names seats vertices edges

abbrev pub picture : Scene → List ℕ → List ℕ
picture s label = picture_of label s.phase s.free_slots s.free_cells s.names s.seats.items s.vertices.items s.edges.items

-- the text is the picture of a vault, under a label
pub record Draws (v : Contents) (label text : List ℕ) : Type 0 where
  pub scene : Scene
  pub shows : IsScene v scene
  pub is : text ≡ picture scene label
