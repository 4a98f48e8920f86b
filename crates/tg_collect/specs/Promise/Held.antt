-- what is held, slot by slot, as a protection graph
use Rattle.std.specs.Prelude.{◌≡◌, ◌≢◌, ℕ, ◌<◌, List, [], ◌∷◌, ◌++◌, length, map, Option, Some, None, slice_index_or, slice_set, ◌⊎◌}
use Rattle.std.specs.FinMap as finmap
use Rattle.std.specs.FinSet as finset
use Rattle.tg_lists.specs.Promise.Membership.{Distinct}
use Rattle.tg_rights.specs.Promise.Letters.{Letters, joined, without, none}
use Rattle.tg_graph.specs.declared.vertex.Vertex.{Vertex}
use Rattle.tg_graph.specs.Promise.Protection.{Triple, edge, edge_list, Protection}
use Rattle.tg_cells.specs.Promise.Lists.{Edge}
use Rattle.tg_marking.specs.Promise.Values.{Kept}

-- what the graph has of a slot
abbrev pub vertex_of : Kept → Vertex
vertex_of k = record { kind = k.kind; text = k.text }

abbrev pub entries : List (Option Kept) → List (ℕ × Vertex)
entries [] = []
entries (None ∷ os) = entries os
entries (Some k ∷ os) = (k.serial, vertex_of k) ∷ entries os

abbrev pub triples_from : ℕ → List Edge → List Triple
triples_from x [] = []
triples_from x (e ∷ es) = edge_list x e.rights e.serial ++ triples_from x es

abbrev pub triples : List (Option Kept) → List Triple
triples [] = []
triples (None ∷ os) = triples os
triples (Some k ∷ os) = triples_from k.serial k.edges ++ triples os

-- (a store knows no names, nor who has retired)
abbrev pub held : List (Option Kept) → ℕ → Protection
held os next = record { vertices = finmap.from_entries (entries os); next = next; triples = finset.from_list (triples os); names = []; retired = finset.empty }

-- no other slot holds the serial
abbrev pub Apart : List (Option Kept) → ℕ → ℕ → Type 0
Apart os i x = (j : ℕ) (k : Kept) → j ≢ i → slice_index_or os j None ≡ Some k → k.serial ≢ x

-- what each change of one slot does to the graph
abbrev pub Gains : Type 0
Gains = (os : List (Option Kept)) (i next : ℕ) (k : Kept) (e : Edge) → slice_index_or os i None ≡ Some k
    → held (slice_set os i (Some (record k { edges = e ∷ k.edges }))) next ≡ record (held os next) { triples = finset.union (held os next).triples (edge k.serial e.rights e.serial) }

abbrev pub Joins : Type 0
Joins = (os : List (Option Kept)) (i next : ℕ) (k : Kept) (before : List Edge) (e : Edge) (after : List Edge) (rights : Letters) → slice_index_or os i None ≡ Some k → k.edges ≡ before ++ e ∷ after
    → held (slice_set os i (Some (record k { edges = before ++ record e { rights = joined e.rights rights } ∷ after }))) next ≡ record (held os next) { triples = finset.union (held os next).triples (edge k.serial rights e.serial) }

-- an edge that loses rights stays or goes
abbrev pub Drops : Type 0
Drops = (os : List (Option Kept)) (i next : ℕ) (k : Kept) (before : List Edge) (e : Edge) (after es : List Edge) (rights : Letters) → slice_index_or os i None ≡ Some k → k.edges ≡ before ++ e ∷ after
    → Distinct (map (λ d. d.serial) k.edges) → Apart os i k.serial
    → (es ≡ before ++ record e { rights = without e.rights rights } ∷ after) ⊎ ((es ≡ before ++ after) × (without e.rights rights ≡ none))
    → held (slice_set os i (Some (record k { edges = es }))) next ≡ record (held os next) { triples = finset.difference (held os next).triples (edge k.serial rights e.serial) }

-- a vertex comes into a free slot, or in place of one with its serial and its edges
abbrev pub Comes : Type 0
Comes = (os : List (Option Kept)) (i next : ℕ) (k : Kept) → i < length os → Apart os i k.serial
    → ((slice_index_or os i None ≡ None) × (k.edges ≡ [])) ⊎ ((o : Kept) × (slice_index_or os i None ≡ Some o) × (o.serial ≡ k.serial) × (o.edges ≡ k.edges))
    → held (slice_set os i (Some k)) next ≡ record (held os next) { vertices = finmap.insert (held os next).vertices k.serial (vertex_of k) }
