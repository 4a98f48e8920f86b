-- what is listed, as the maps of a graph have it
use Rattle.std.specs.Prelude.{ℕ, List, map}
use Rattle.tg_rights.specs.Promise.Letters.{Letters}
use Rattle.tg_graph.specs.declared.member.Member.{Member}
use Rattle.tg_graph.specs.declared.vertex.Vertex.{Vertex}
use Rattle.tg_graph.specs.Promise.Opening.{ListedEdge}
use Rattle.tg_graph.specs.Promise.Parts.{Listed}

-- what is listed, as the maps of a graph have it
abbrev pub listed_vertex : Listed → Vertex
listed_vertex v = record { kind = v.1; text = v.2 }

abbrev pub vertex_entry : Listed → ℕ × Vertex
vertex_entry v = (v.0, listed_vertex v)

abbrev pub label_entry : ListedEdge → (ℕ × ℕ) × Letters
label_entry e = ((e.0, e.2), e.1)

abbrev pub member_of : List ℕ × ℕ → Member
member_of n = record { name = n.0; serial = n.1 }

abbrev pub members_of : List (List ℕ × ℕ) → List Member
members_of names = map member_of names
