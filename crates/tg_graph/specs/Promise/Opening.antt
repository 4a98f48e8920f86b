-- configurations: what is wrong with one, and the graph that a sound one opens
use Rattle.std.specs.Prelude.{◌≡◌, ℕ, zero, suc, Bool, false, not, ◌&&◌, ◌||◌, ◌==◌, nat_lt, nat_le, List, [], ◌∷◌, length, Option, Some, None, if◌then◌else◌, ◌⊎◌}
use Rattle.std.specs.List.{list_any, list_all}
use Rattle.std.specs.Ordering.{nat_cmp}
use Rattle.std.specs.FinMap as map
use Rattle.std.specs.FinSet as set
use Rattle.tg_rights.specs.Promise.Letters.{Letters, is_none}
use Rattle.tg_rights.specs.Promise.Name.{is_name}
use Rattle.tg_rights.specs.declared.kind.Kind.TheVariants as kind
use Rattle.tg_rights.specs.declared.limits.TheConstants.{MAX_CELLS, MAX_PRINCIPALS, MAX_SLOTS}
use Rattle.tg_graph.specs.declared.config.Config.{Config}
use Rattle.tg_graph.specs.declared.config.OpenFault.{OpenFault}
use Rattle.tg_graph.specs.declared.config.OpenFault.TheVariants as fault
use Rattle.tg_graph.specs.declared.member.Member.{Member}
use Rattle.tg_graph.specs.declared.vertex.Vertex.{Vertex}
use Rattle.tg_graph.specs.Promise.Protection.{Triples, edge, same_name, Protection}

abbrev pub ListedEdge : Type 0
ListedEdge = ℕ × Letters × ℕ

-- some element occurs before an equal one
abbrev pub has_twice : {X : Type 0} → (X → X → Bool) → List X → Bool
has_twice same [] = false
has_twice same (x ∷ xs) = list_any (same x) xs || has_twice same xs

abbrev pub is_principal : ℕ → ℕ → Bool
is_principal count v = nat_le 1 v && nat_le v count

abbrev pub same_pair : ListedEdge → ListedEdge → Bool
same_pair e f = (e.0 == f.0) && (e.2 == f.2)

module _ (c : Config) where
  abbrev pub principal_count : ℕ
  principal_count = length c.principals.items

  -- what each fault finds wrong, over the whole configuration
  abbrev pub is_at_fault : OpenFault → Bool
  is_at_fault fault.Principals = not (nat_le 1 principal_count && nat_le principal_count MAX_PRINCIPALS)
  is_at_fault fault.Name = not (list_all is_name c.principals.items) || has_twice same_name c.principals.items
  is_at_fault fault.EdgeEnd = not (list_all (λ e. is_principal principal_count e.0 && is_principal principal_count e.2) c.edges.items)
  is_at_fault fault.SelfEdge = list_any (λ e. e.0 == e.2) c.edges.items
  is_at_fault fault.EmptyLabel = list_any (λ e. is_none e.1) c.edges.items
  is_at_fault fault.PairTwice = has_twice same_pair c.edges.items
  is_at_fault fault.NextSmall = nat_le c.next principal_count
  is_at_fault fault.FewSlots = nat_lt c.slots principal_count
  is_at_fault fault.FewCells = nat_lt c.cells (length c.edges.items)
  is_at_fault fault.Limit = not (nat_le 1 c.slots && nat_le c.slots MAX_SLOTS && nat_le 1 c.cells && nat_le c.cells MAX_CELLS)
  is_at_fault fault.OutOfMemory = false

  abbrev pub faults : List OpenFault
  faults = fault.Principals ∷ fault.Name ∷ fault.EdgeEnd ∷ fault.SelfEdge ∷ fault.EmptyLabel ∷ fault.PairTwice ∷ fault.NextSmall ∷ fault.FewSlots ∷ fault.FewCells ∷ fault.Limit ∷ []

  -- the first of the faults that is there
  abbrev pub first_at_fault : List OpenFault → Option OpenFault
  first_at_fault [] = None
  first_at_fault (f ∷ fs) = if is_at_fault f then Some f else first_at_fault fs

  abbrev pub first_fault : Option OpenFault
  first_fault = first_at_fault faults

-- subjects with the serials from 1 to the count
abbrev pub subjects : ℕ → map.FinMap nat_cmp Vertex
subjects zero = map.empty
subjects (suc count) = map.insert (subjects count) (suc count) (record { kind = kind.Subject; text = [] })

-- the triples with those of the edges
abbrev pub with_edges : Triples → List ListedEdge → Triples
with_edges triples [] = triples
with_edges triples (e ∷ es) = with_edges (set.union triples (edge e.0 e.1 e.2)) es

-- principals of these names, whose serials are counted from the first on
abbrev pub first_members : ℕ → List (List ℕ) → List Member
first_members first [] = []
first_members first (name ∷ names) = record { name = name; serial = first } ∷ first_members (suc first) names

unfoldable pub opening : Config → Protection
opening c = record {
  vertices = subjects (principal_count c);
  next = c.next;
  triples = with_edges set.empty c.edges.items;
  names = first_members 1 c.principals.items;
  retired = set.empty;
}

-- the configuration is refused for this: its first fault, or out of memory if it has none
abbrev pub IsRefusal : Config → OpenFault → Type 0
IsRefusal c f = (first_fault c ≡ Some f) ⊎ ((f ≡ fault.OutOfMemory) × (first_fault c ≡ None))
