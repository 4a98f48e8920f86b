-- the lists that a graph is made of
use Rattle.std.specs.Prelude.{◌≡◌, ◌≢◌, ◌<◌, ◌≤◌, ◌⊎◌, ◌↔◌, ℕ, false, true, List, [], ◌∷◌, length, map, Some}
use Rattle.tg_lists.specs.Promise.Membership.{Contains, Distinct}
use Rattle.tg_rights.specs.Promise.Letters.{Letters, is_none}
use Rattle.tg_rights.specs.declared.kind.Kind.{Kind}
use Rattle.tg_rights.specs.declared.kind.Kind.TheVariants as kind
use Rattle.tg_rights.specs.declared.limits.TheConstants.{MAX_PRINCIPALS}
use Rattle.tg_graph.specs.declared.member.Member.{Member}
use Rattle.tg_graph.specs.declared.parts.Parts.{Parts}
use Rattle.tg_graph.specs.Promise.Opening.{ListedEdge}
use Rattle.tg_graph.specs.Promise.Protection.{Protection, IsEdge, IsGraph, has_retired, label, vertex}

-- each element comes before all later ones
abbrev pub Rises : {X : Type 0} → (X → X → Type 0) → List X → Type 0
Rises before [] = Unit {0}
Rises {X} before (x ∷ xs) = ((y : X) → Contains xs y → before x y) × Rises before xs

-- a listed vertex: its serial, what it is, and its text
abbrev pub Listed : Type 0
Listed = ℕ × Kind × List ℕ

-- edges go by their first end, then by their second
abbrev pub Before : ListedEdge → ListedEdge → Type 0
Before e f = (e.0 < f.0) ⊎ ((e.0 ≡ f.0) × (e.2 < f.2))

module _ (p : Parts) where
  -- a vertex of this serial is listed
  abbrev pub HasVertex : ℕ → Type 0
  HasVertex v = (e : Listed) × Contains p.vertices.items e × (e.0 ≡ v)

  -- a subject of this serial is listed
  abbrev pub HasSubject : ℕ → Type 0
  HasSubject v = (text : List ℕ) × Contains p.vertices.items (v, kind.Subject, text)

-- the lists make a graph: they are in order, the next serial is above all, edges have two different ends, which are
-- listed, and some right; principals are few, are subjects of different names and have not retired; and who has retired
-- is listed
pub record AreParts (p : Parts) : Type 0 where
  pub vertices : Rises (λ v w. v.0 < w.0) p.vertices.items
  pub below_next : (v : ℕ) → HasVertex p v → v < p.next
  pub edges : Rises Before p.edges.items
  pub ends : (e : ListedEdge) → Contains p.edges.items e → HasVertex p e.0 × HasVertex p e.2 × (e.0 ≢ e.2) × (is_none e.1 ≡ false)
  pub names : Distinct (map (λ n. n.0) p.names.items)
  pub serials : Distinct (map (λ n. n.1) p.names.items)
  pub few : length p.names.items ≤ MAX_PRINCIPALS
  pub principals : (n : List ℕ × ℕ) → Contains p.names.items n → HasSubject p n.1 × (Contains p.retired.items n.1 → ⊥)
  pub retired : Rises (λ v w. v < w) p.retired.items
  pub were : (v : ℕ) → Contains p.retired.items v → HasVertex p v

-- the lists have exactly what the graph has
pub record Lists (p : Parts) (G : Protection) : Type 0 where
  pub vertices : (v : ℕ) (k : Kind) (text : List ℕ) → Contains p.vertices.items (v, k, text) ↔ (vertex G v ≡ Some (record { kind = k; text = text }))
  pub edges : (x y : ℕ) (l : Letters) → Contains p.edges.items (x, l, y) ↔ ((l ≡ label G x y) × IsEdge G x y)
  pub names : (m : Member) → Contains p.names.items (m.name, m.serial) ↔ Contains G.names m
  pub retired : (v : ℕ) → Contains p.retired.items v ↔ (has_retired G v ≡ true)
  pub next : p.next ≡ G.next

-- lists have exactly what one graph has
abbrev pub PartsAreOneGraph : Type 0
PartsAreOneGraph = (p : Parts) (G H : Protection) → IsGraph G → IsGraph H → Lists p G → Lists p H → G ≡ H
