-- the protection graph that ordered maps and lists are seen as
use Rattle.std.specs.Prelude.{ℕ, List, [], ◌∷◌, true}
use Rattle.std.specs.FinMap as map
use Rattle.std.specs.FinSet as set
use Rattle.tg_rights.specs.Promise.Letters.{Letters}
use Rattle.tg_graph.specs.declared.member.Member.{Member}
use Rattle.tg_graph.specs.declared.vertex.Vertex.{Vertex}
use Rattle.tg_graph.specs.Promise.Protection.{Triples, edge, Protection}

abbrev pub all_rights : Letters
all_rights = record { read = true; write = true; take = true; grant = true }

-- the triples of the labels; if a pair of vertices occurs twice, the first label counts
unfoldable pub triples_of : List ((ℕ × ℕ) × Letters) → Triples
triples_of [] = set.empty
triples_of (e ∷ es) = set.union (edge e.0.0 e.1 e.0.1) (set.difference (triples_of es) (edge e.0.0 all_rights e.0.1))

abbrev pub protection_of : List (ℕ × Vertex) → List ((ℕ × ℕ) × Letters) → ℕ → List Member → List ℕ → Protection
protection_of vertices labels next names retired = record {
  vertices = map.from_entries vertices;
  next = next;
  triples = triples_of labels;
  names = names;
  retired = set.from_list retired;
}
