-- the protection graph: principals by name, rights as triples, vertices, and how rights lead from one to another
use Rattle.std.specs.Prelude.{◌≡◌, ◌≢◌, ◌<◌, ◌≤◌, ℕ, Bool, true, false, not, ◌==◌, if◌then◌else◌, nat_le, List, [], ◌∷◌, ◌++◌, length, map, Option, Some, None, ◌↔◌}
use Rattle.std.specs.List.{list_any, filter}
use Rattle.std.specs.Option.{option_map}
use Rattle.std.specs.Ordering.{nat_cmp}
use Rattle.std.specs.Cmp.Lexicographic.{pointwise, slice_cmp}
use Rattle.std.specs.FinMap as map
use Rattle.std.specs.FinSet as set
use Rattle.std.specs.declared.cmp.Ordering.{Ordering}
use Rattle.tg_lists.specs.Promise.Membership.{Contains, Distinct}
use Rattle.tg_rights.specs.declared.kind.Kind.TheVariants as kind
use Rattle.tg_rights.specs.declared.limits.TheConstants.{MAX_PRINCIPALS}
use Rattle.tg_graph.specs.declared.member.Member.{Member}
use Rattle.tg_graph.specs.declared.vertex.Vertex.{Vertex}
use Rattle.tg_rights.specs.Promise.Letters.{Letters, Right, read, write, take, grant, rights_where, is_none}
use Rattle.tg_rights.specs.declared.kind.Kind.{Kind}

-- the name is this one, byte by byte
abbrev pub same_name : List ℕ → List ℕ → Bool
same_name = pointwise (λ a b. a == b)

module _ (members : List Member) where
  abbrev pub has_name : List ℕ → Bool
  has_name name = list_any (λ m. same_name m.name name) members

  abbrev pub has_serial : ℕ → Bool
  has_serial x = list_any (λ m. m.serial == x) members

  -- one of them has the name that is to be given
  abbrev pub is_taken : Option (List ℕ) → Bool
  is_taken None = false
  is_taken (Some name) = has_name name

  -- there is no room for another, if there is to be one
  abbrev pub is_crowded : Option (List ℕ) → Bool
  is_crowded None = false
  is_crowded (Some name) = nat_le MAX_PRINCIPALS (length members)

  -- with one more at the end, if it is given a name
  abbrev pub with_member : Option (List ℕ) → ℕ → List Member
  with_member None x = members
  with_member (Some name) x = members ++ record { name = name; serial = x } ∷ []

  abbrev pub without_member : ℕ → List Member
  without_member x = filter (λ m. not (m.serial == x)) members

-- the serial of the first one that has the name
abbrev pub serial_of : List Member → List ℕ → Option ℕ
serial_of [] name = None
serial_of (m ∷ ms) name = if same_name m.name name then Some m.serial else serial_of ms name

abbrev pub Rise : List Member → Type 0
Rise [] = Unit {0}
Rise (m ∷ ms) = ((n : Member) → Contains ms n → m.serial < n.serial) × Rise ms

-- the principals are subjects, by rising serial and under different names; they are few and have not retired
pub record IsRoll (vertices : map.FinMap nat_cmp Vertex) (next : ℕ) (members : List Member) (retired : set.FinSet nat_cmp) : Type 0 where
  pub subjects : (m : Member) → Contains members m → option_map (λ e. e.kind) (map.get vertices m.serial) ≡ Some kind.Subject
  pub active : (m : Member) → Contains members m → set.contains retired m.serial ≡ false
  pub rising : Rise members
  pub apart : Distinct (map (λ m. m.name) members)
  pub few : length members ≤ MAX_PRINCIPALS
  pub past : (v : ℕ) → set.contains retired v ≡ true → v < next

-- the name may be given to another principal: nobody has it, and there is room
abbrev pub MayBeNamed : List Member → Option (List ℕ) → Type 0
MayBeNamed members None = Unit {0}
MayBeNamed members (Some name) = ((m : Member) → Contains members m → m.name ≢ name) × (length members < MAX_PRINCIPALS)

-- x is one of the principals
abbrev pub IsMember : List Member → ℕ → Type 0
IsMember members x = (m : Member) × Contains members m × (m.serial ≡ x)

-- a right that one vertex has over another
pub record Triple : Type 0 where
  pub from : ℕ
  pub right : Right
  pub to : ℕ

abbrev pub right_number : Right → ℕ
right_number read = 0
right_number write = 1
right_number take = 2
right_number grant = 3

-- triples by their first vertex, then by their second, then by the right
abbrev pub parts : Triple → List ℕ
parts t = t.from ∷ t.to ∷ right_number t.right ∷ []

abbrev pub triple_cmp : Triple → Triple → Ordering
triple_cmp s t = slice_cmp nat_cmp (parts s) (parts t)

abbrev pub Triples : Type 0
Triples = set.FinSet triple_cmp

-- the triples of one edge, in the order of their rights
abbrev pub edge_list : ℕ → Letters → ℕ → List Triple
edge_list x label y =
    (if label.read then record { from = x; right = read; to = y } ∷ [] else [])
    ++ ((if label.write then record { from = x; right = write; to = y } ∷ [] else [])
    ++ ((if label.take then record { from = x; right = take; to = y } ∷ [] else [])
    ++ (if label.grant then record { from = x; right = grant; to = y } ∷ [] else [])))

unfoldable pub edge : ℕ → Letters → ℕ → Triples
edge x label y = set.from_list (edge_list x label y)

pub record Protection : Type 0 where
  pub vertices : map.FinMap nat_cmp Vertex
  pub next : ℕ
  pub triples : Triples
  -- the active principals
  pub names : List Member
  -- who is a principal no longer
  pub retired : set.FinSet nat_cmp

abbrev pub vertex : Protection → ℕ → Option Vertex
vertex G v = map.get G.vertices v

abbrev pub kind_of : Protection → ℕ → Option Kind
kind_of G v = option_map (λ e. e.kind) (vertex G v)

abbrev pub IsVertex : Protection → ℕ → Type 0
IsVertex G v = map.contains_key G.vertices v ≡ true

abbrev pub IsSubject : Protection → ℕ → Type 0
IsSubject G v = kind_of G v ≡ Some kind.Subject

-- the rights that x has over y
unfoldable pub label : Protection → ℕ → ℕ → Letters
label G x y = rights_where (λ r. set.contains G.triples (record { from = x; right = r; to = y }))

abbrev pub IsEdge : Protection → ℕ → ℕ → Type 0
IsEdge G x y = is_none (label G x y) ≡ false

-- the serial of the active principal of this name
abbrev pub named : Protection → List ℕ → Option ℕ
named G name = serial_of G.names name

abbrev pub is_active : Protection → ℕ → Bool
is_active G x = has_serial G.names x

abbrev pub has_retired : Protection → ℕ → Bool
has_retired G x = set.contains G.retired x

-- each triple joins two distinct vertices, `next` is above every serial, and the principals are subjects
pub record IsGraph (G : Protection) : Type 0 where
  pub below_next : (v : ℕ) → IsVertex G v → v < G.next
  pub from_vertex : (t : Triple) → set.contains G.triples t ≡ true → IsVertex G t.from
  pub to_vertex : (t : Triple) → set.contains G.triples t ≡ true → IsVertex G t.to
  pub distinct : (t : Triple) → set.contains G.triples t ≡ true → t.from ≢ t.to
  pub roll : IsRoll G.vertices G.next G.names G.retired

-- the later vertices of a path from x to y: an edge leads from each vertex to the next
abbrev pub Leads : Protection → ℕ → List ℕ → ℕ → Type 0
Leads G x [] y = x ≡ y
Leads G x (z ∷ zs) y = IsEdge G x z × Leads G z zs y

-- a path from x to y, which starts at a vertex and may be that vertex alone
abbrev pub IsPath : Protection → ℕ → List ℕ → ℕ → Type 0
IsPath G x later y = IsVertex G x × Leads G x later y

abbrev pub Reaches : Protection → ℕ → ℕ → Type 0
Reaches G x y = (later : List ℕ) × IsPath G x later y

abbrev pub Live : Protection → (ℕ → Type 0) → ℕ → Type 0
Live G IsRoot v = (root : ℕ) × IsRoot root × Reaches G root v

-- x cannot tell the graphs apart: the same paths lead from it, to vertices of the same kind, text and labels; the same
-- principals are active, and x has retired in both or in neither
pub record Agree (G H : Protection) (x : ℕ) : Type 0 where
  pub subject : IsSubject G x
  pub subject_too : IsSubject H x
  pub paths : (later : List ℕ) (y : ℕ) → IsPath G x later y ↔ IsPath H x later y
  pub vertices : (later : List ℕ) (y : ℕ) → IsPath G x later y → vertex G y ≡ vertex H y
  pub labels : (later : List ℕ) (y z : ℕ) → IsPath G x later y → label G y z ≡ label H y z
  pub names : G.names ≡ H.names
  pub retired : has_retired G x ≡ has_retired H x

-- H is a part of G: some of its vertices, each with all its edges, which lead to vertices of the part, and the same
-- principals, active and retired
pub record IsPart (G H : Protection) : Type 0 where
  pub vertices : (v : ℕ) → IsVertex H v → vertex G v ≡ vertex H v
  pub labels : (v w : ℕ) → IsVertex H v → label G v w ≡ label H v w
  pub closed : (v w : ℕ) → IsVertex H v → IsEdge G v w → IsVertex H w
  pub names : G.names ≡ H.names
  pub retired : G.retired ≡ H.retired

-- H is what G has of the vertices that are kept: these, with their kinds, texts and all their edges, which lead to kept
-- ones; the same active principals and next serial; and of those who have retired the kept ones
pub record IsRestriction (G H : Protection) (IsKept : ℕ → Type 0) : Type 0 where
  pub kept : (v : ℕ) → IsVertex H v ↔ IsKept v
  pub part : IsPart (record G { retired = H.retired }) H
  pub retired : (v : ℕ) → (has_retired H v ≡ true) ↔ (IsVertex H v × (has_retired G v ≡ true))
  pub next : H.next ≡ G.next

-- what may be kept of G: vertices, the active principals among them, from which edges lead to kept ones
pub record IsClosed (G : Protection) (IsKept : ℕ → Type 0) : Type 0 where
  pub vertices : (v : ℕ) → IsKept v → IsVertex G v
  pub step : (v w : ℕ) → IsKept v → IsEdge G v w → IsKept w
  pub principals : (m : Member) → Contains G.names m → IsKept m.serial
