-- A configuration without a fault has room for the graph that it opens.
use Rattle.std.proofs.Common.{◌≡◌, ℕ, zero, suc, ◌+◌, ◌≤◌, ◌∷◌, [], List, Bool, true, false, cond, length, refl, sym, ap, ◌∙◌, ◌&&◌, arith}
use Rattle.std.specs.Prelude.{map as map_list}
use Rattle.std.specs.Ordering.{nat_cmp}
use Rattle.std.specs.Cmp.{nat_cmp_total}
use Rattle.std.specs.FinMap as map
use Rattle.std.specs.FinSet as set
use Rattle.std.specs.List.{list_all}
use Rattle.std.proofs.lemmas.Bool.{and_parts, false_from_ne_true, not-false, leb-true, ltb-false}
use Rattle.tg_rights.specs.Promise.Letters.{Letters, joined, is_none}
use Rattle.tg_rights.specs.declared.kind.Kind.TheVariants as kind
use Rattle.tg_rights.specs.declared.limits.TheConstants.{MAX_CELLS, MAX_SLOTS}
use Rattle.tg_graph.specs.declared.config.OpenFault.TheVariants as fault
use Rattle.tg_graph.specs.declared.member.Member.{Member}
use Rattle.tg_graph.specs.declared.vertex.Vertex.{Vertex}
use Rattle.tg_graph.specs.Promise.Protection.{Triples, edge, Protection, label}
use Rattle.tg_graph.specs.Promise.Fullness.{vertex_count, edge_count, edges_at}
use Rattle.tg_graph.specs.Promise.Laws.{OpeningsFit}
use Rattle.tg_graph.specs.Promise.Opening.{ListedEdge, faults, first_members, is_principal, principal_count, opening, subjects, with_edges}
use Rattle.tg_graph.proofs.OpeningLemmas.{none_at, ends-sound, subjects-within, subjects-has}
use Rattle.tg_graph.proofs.EdgesAreCountedLemmas.{edge_count-union, edge_count-bare}

length-map : {X Y : Type 0} (f : X → Y) (xs : List X) → length (map_list f xs) ≡ length xs
length-map f [] = refl
length-map f (x ∷ xs) = ap suc (length-map f xs)

vertex_count-len : (G : Protection) → vertex_count G ≡ map.len G.vertices
vertex_count-len G = length-map (λ e. e.0) (map.entries G.vertices) ∙ sym (map.len-entries G.vertices)

subject : Vertex
subject = record { kind = kind.Subject; text = [] }

pub len-subjects : (n : ℕ) → map.len (subjects n) ≡ n
len-subjects zero = map.len-empty nat_cmp Vertex
len-subjects (suc n) =
    map.len-insert nat_cmp_total (subjects n) (suc n) (record { kind = kind.Subject; text = [] })
    ∙ ap (λ b. cond b (map.len (subjects n)) (map.len (subjects n) + 1)) (false_from_ne_true _ (λ h. let l : suc n ≤ n = subjects-within n (suc n) h in absurd (omega arith))) ∙ (let rest = len-subjects n in omega arith)

at_most_one : (l : Letters) → edges_at l ≤ 1
at_most_one l = by (is_none l) where
  by : (b : Bool) → cond b 0 1 ≤ 1
  by true = omega arith
  by false = omega arith

-- each edge of a list adds at most one
with_edges-count : (count next : ℕ) (ms : List Member) (rs : set.FinSet nat_cmp) (T : Triples) (es : List ListedEdge) → list_all (λ e. is_principal count e.0 && is_principal count e.2) es ≡ true →
    edge_count (record { vertices = subjects count; next = next; triples = with_edges T es; names = ms; retired = rs }) ≤ edge_count (record { vertices = subjects count; next = next; triples = T; names = ms; retired = rs }) + length es
with_edges-count count next ms rs T [] ends = omega arith
with_edges-count count next ms rs T (e ∷ es) ends =
    let at = and_parts _ _ ends in
    let here = and_parts _ _ at.0 in
    let from = and_parts _ _ here.0 in
    let to = and_parts _ _ here.1 in
    let G : Protection = record { vertices = subjects count; next = next; triples = T; names = ms; retired = rs } in
    let one = edge_count-union G e.0 e.2 e.1 (subjects-has count e.0 (leb-true 1 e.0 from.0) (leb-true e.0 count from.1)) (subjects-has count e.2 (leb-true 1 e.2 to.0) (leb-true e.2 count to.1)) in
    let most = at_most_one (joined (label G e.0 e.2) e.1) in
    let rest = with_edges-count count next ms rs (set.union T (edge e.0 e.1 e.2)) es at.1 in
    omega arith

pub openings_fit : OpeningsFit
unfolding opening
openings_fit c sound =
    let count = principal_count c in
    let limit = and_parts _ _ (not-false _ (none_at c (faults c) sound 9 fault.Limit (omega arith))) in
    let cells = and_parts _ _ limit.0 in
    let slots = and_parts _ _ cells.0 in (
      vertex_count-len (opening c) ∙ len-subjects count,
      (let bare = edge_count-bare (record { vertices = subjects count; next = c.next; triples = set.empty; names = first_members 1 c.principals.items; retired = set.empty }) refl in
          let all = with_edges-count count c.next (first_members 1 c.principals.items) set.empty set.empty c.edges.items (ends-sound c sound) in omega arith),
      ltb-false c.slots count (none_at c (faults c) sound 7 fault.Limit (omega arith)),
      ltb-false c.cells (length c.edges.items) (none_at c (faults c) sound 8 fault.Limit (omega arith)),
      leb-true 1 c.slots slots.0,
      leb-true c.slots MAX_SLOTS slots.1,
      leb-true 1 c.cells cells.1,
      leb-true c.cells MAX_CELLS limit.1,
    )
