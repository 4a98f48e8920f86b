-- How many vertices and edges a graph has after each command.
use Rattle.std.proofs.Common.{◌≡◌, ℕ, suc, ◌+◌, ◌∷◌, [], List, Bool, true, false, T, map as map_list, cond, length, refl, sym, ap, subst, ◌∙◌, ◌==◌, ◌&&◌, ◌||◌, Some, None}
use Rattle.std.specs.Prelude.{sum_by}
use Rattle.std.specs.Option.{is_some}
use Rattle.std.specs.Ordering.{nat_cmp, eq_by_cmp, is_lt}
use Rattle.std.specs.Cmp.{nat_cmp_total}
use Rattle.std.specs.FinMap as map
use Rattle.std.specs.FinMap.Entries.{below_all, same_entries}
use Rattle.std.specs.declared.cmp.Ordering.TheVariants.{Less}
use Rattle.std.specs.List.{AllByRecursion}
use Rattle.std.specs.List.Sorted.{IsStrictlySortedBy}
use Rattle.std.specs.Map.{keys_of}
use Rattle.std.proofs.lemmas.Bool.{eqb-true}
use Rattle.std.proofs.lemmas.Map.Entries.{length-keys_of}
use Rattle.tg_rights.proofs.Bools.{true_both}
use Rattle.tg_graph.specs.declared.vertex.Vertex.{Vertex}
use Rattle.tg_graph.specs.Promise.Protection.{Protection, IsGraph, IsVertex, label}
use Rattle.tg_graph.specs.Promise.Fullness.{edge_count, vertex_count}
use Rattle.tg_graph.specs.Promise.Rules.{labelled, edges_of}
use Rattle.tg_graph.proofs.VertexLemmas.{IsVertex-insert, next_is_free}

abbrev Entries : Type 0
Entries = List (ℕ × Vertex)

-- the entries' keys, each with the same value
abbrev marked : Entries → List (ℕ × ℕ)
marked es = map_list (λ e. (e.0, 0)) es

keys-marked : (es : Entries) → map_list (λ (e : ℕ × ℕ). e.0) (marked es) ≡ map_list (λ e. e.0) es
keys-marked [] = refl
keys-marked (e ∷ es) = ap (λ ks. e.0 ∷ ks) (keys-marked es)

below-marked : (x : ℕ) (es : Entries) → below_all nat_cmp x (marked es) ≡ below_all nat_cmp x es
below-marked x [] = refl
below-marked x (e ∷ es) = ap (λ b. is_lt (nat_cmp x e.0) && b) (below-marked x es)

sorted-marked : (es : Entries) → map.is_sorted nat_cmp (marked es) ≡ map.is_sorted nat_cmp es
sorted-marked [] = refl
sorted-marked (e ∷ es) = λ i. below-marked e.0 es i && sorted-marked es i

find-marked : (q : ℕ) (es : Entries) → map.find nat_cmp q (marked es) ≡ cond (is_some (map.find nat_cmp q es)) (Some 0) None
find-marked q [] = refl
find-marked q (e ∷ es) = by (eq_by_cmp nat_cmp q e.0) (find-marked q es) where
  by : (b : Bool) → map.find nat_cmp q (marked es) ≡ cond (is_some (map.find nat_cmp q es)) (Some 0) None →
      cond b (Some 0) (map.find nat_cmp q (marked es)) ≡ cond (is_some (cond b (Some e.1) (map.find nat_cmp q es))) (Some 0) None
  by true rest = refl
  by false rest = rest

-- maps that have the same keys list them alike
pub same_keys : (m n : map.FinMap nat_cmp Vertex) → ((q : ℕ) → map.contains_key m q ≡ map.contains_key n q) → map.keys m ≡ map.keys n
same_keys m n same =
    sym (keys-marked (map.entries m))
    ∙ ap (λ es. map_list (λ (e : ℕ × ℕ). e.0) es)
    (same_entries nat_cmp nat_cmp_total map.nat_cmp-IsAntisymmetric (marked (map.entries m)) (marked (map.entries n))
    (subst T (sym (sorted-marked (map.entries m))) (map.entries_sorted m)) (subst T (sym (sorted-marked (map.entries n))) (map.entries_sorted n))
    (λ q.
    find-marked q (map.entries m) ∙ ap (λ o. cond (is_some o) (Some 0) None) (sym (map.get-entries m q))
    ∙ ap (λ b. cond b (Some 0) None) (same q)
    ∙ ap (λ o. cond (is_some o) (Some 0) None) (map.get-entries n q) ∙ sym (find-marked q (map.entries n))))
    ∙ keys-marked (map.entries n)

-- a vertex that gets another text adds no key
pub keys-again : (G : Protection) (v : ℕ) (e : Vertex) → IsVertex G v → map.keys (map.insert G.vertices v e) ≡ map.keys G.vertices
keys-again G v e v_in = same_keys (map.insert G.vertices v e) G.vertices (λ q. IsVertex-insert G.vertices v e q ∙ by q (q == v) refl) where
  by : (q : ℕ) (b : Bool) → (q == v) ≡ b → (b || map.contains_key G.vertices q) ≡ map.contains_key G.vertices q
  by q true is = sym (ap (λ k. map.contains_key G.vertices k) (eqb-true q v is) ∙ v_in)
  by q false is = refl

pub vertex_count-again : (G : Protection) (v : ℕ) (e : Vertex) → IsVertex G v → vertex_count (record G { vertices = map.insert G.vertices v e }) ≡ vertex_count G
vertex_count-again G v e v_in = ap length (keys-again G v e v_in)

pub edge_count-again : (G : Protection) (v : ℕ) (e : Vertex) → IsVertex G v → edge_count (record G { vertices = map.insert G.vertices v e }) ≡ edge_count G
unfolding label edges_of
edge_count-again G v e v_in = ap (λ ks. sum_by (λ x. length (labelled (label G x) ks)) ks) (keys-again G v e v_in)

pub length-keys : (m : map.FinMap nat_cmp Vertex) → length (map.keys m) ≡ map.len m
length-keys m = by (map.entries m) ∙ sym (map.len-entries m) where
  by : (es : Entries) → length (map_list (λ e. e.0) es) ≡ length es
  by [] = refl
  by (e ∷ es) = ap (λ n. suc n) (by es)

-- a new vertex is one more
pub vertex_count-new : (G : Protection) (e : Vertex) → IsGraph G → length (map.keys (map.insert G.vertices G.next e)) ≡ vertex_count G + 1
vertex_count-new G e g =
    length-keys (map.insert G.vertices G.next e) ∙ map.len-insert nat_cmp_total G.vertices G.next e
    ∙ ap (λ b. cond b (map.len G.vertices) (map.len G.vertices + 1)) (ap is_some (next_is_free G g))
    ∙ ap (λ n. n + 1) (sym (length-keys G.vertices))

-- the vertices of a graph are as many as the entries of the map that has them
below_is : (x : ℕ) (es : Entries) → AllByRecursion (λ q. nat_cmp x q ≡ Less) (keys_of es) → T (below_all nat_cmp x es)
below_is x [] below = tt
below_is x (e ∷ es) below = true_both _ _ (subst T (sym (ap is_lt below.0)) tt) (below_is x es below.1)

sorted_is : (es : Entries) → IsStrictlySortedBy nat_cmp (keys_of es) → T (map.is_sorted nat_cmp es)
unfolding IsStrictlySortedBy
sorted_is [] sorted = tt
sorted_is (e ∷ es) sorted = true_both _ _ (below_is e.0 es sorted.0) (sorted_is es sorted.1)

pub vertex_count-shown : (G : Protection) (es : Entries) → G.vertices ≡ map.from_entries es → IsStrictlySortedBy nat_cmp (keys_of es) → vertex_count G ≡ length es
vertex_count-shown G es is sorted =
    ap (λ (m : map.FinMap nat_cmp Vertex). length (map.keys m)) is
    ∙ ap (λ (fs : Entries). length (map_list (λ e. e.0) fs)) (
    same_entries nat_cmp nat_cmp_total map.nat_cmp-IsAntisymmetric (map.entries M) es (map.entries_sorted M) (sorted_is es sorted) (λ q. sym (map.get-entries M q) ∙ map.get-from_entries nat_cmp_total es q)
    ) ∙ length-keys_of es where
      M : map.FinMap nat_cmp Vertex
      M = map.from_entries es
