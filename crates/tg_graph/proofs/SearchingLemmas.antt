-- A search along edges: what it reaches is reachable, each turn has less left to do, and at the end all is reached.
use Rattle.std.proofs.Common.{◌≡◌, ℕ, ◌+◌, ◌≤◌, ◌∷◌, [], ◌++◌, List, Bool, true, false, cond, length, refl, sym, ap, subst, ◌∙◌, ◌⊎◌, inl, inr, ◌==◌, arith, length-append}
use Rattle.std.specs.FinMap as map
use Rattle.std.proofs.lemmas.Bool.{eqb-true, eq-eqb, or_cases, or_left, or_right}
use Rattle.tg_lists.specs.Promise.Membership.{Contains}
use Rattle.tg_lists.proofs.MembershipLemmas.{contains_append, contains_left, contains_right}
use Rattle.tg_rights.specs.Promise.Letters.{Letters}
use Rattle.tg_graph.specs.declared.search.Search.{Search}
use Rattle.tg_graph.specs.Promise.Protection.{Protection, IsGraph, IsVertex, IsEdge, label, Leads, Reaches}
use Rattle.tg_graph.specs.Promise.Rules.{edges_of}
use Rattle.tg_graph.specs.Inner.Searching.{has_seen, Starts, Visits, IsSearching, unseen, work_left}
use Rattle.tg_graph.proofs.ProtectionLemmas.{edge_to}
use Rattle.tg_graph.proofs.EdgesAreListedLemmas.{vertex_listed, edge_listed, listed_edge}
use Rattle.tg_graph.proofs.OutcomesAgreeLemmas.{leads_on}

counts : (a b : Bool) → (a ≡ true → b ≡ true) → cond b 0 1 ≤ cond a 0 1
counts true b h = let e = h refl in rw e (omega arith)
counts false true h = omega arith
counts false false h = omega arith

-- if more is seen, no more is unseen
unseen-le : (f g : ℕ → Bool) → ((q : ℕ) → f q ≡ true → g q ≡ true) → (vs : List ℕ) → unseen g vs ≤ unseen f vs
unseen-le f g more [] = omega arith
unseen-le f g more (v ∷ vs) = omega (arith, counts (f v) (g v) (more v), unseen-le f g more vs)

-- and if a vertex is seen that was not before, less is
unseen-lt : (f g : ℕ → Bool) (z : ℕ) → ((q : ℕ) → f q ≡ true → g q ≡ true) → f z ≡ false → g z ≡ true → (vs : List ℕ) → Contains vs z → unseen g vs + 1 ≤ unseen f vs
unseen-lt f g z more was is [] h = absurd h
unseen-lt f g z more was is (v ∷ vs) (inl e) =
    let new : ◌≡◌ {A = ℕ} (cond (g v) 0 1) 0 = ap (λ b. cond b 0 1) (ap g (sym e) ∙ is) in
    let old : ◌≡◌ {A = ℕ} (cond (f v) 0 1) 1 = ap (λ b. cond b 0 1) (ap f (sym e) ∙ was) in
    omega (arith, new, old, unseen-le f g more vs)
unseen-lt f g z more was is (v ∷ vs) (inr h) = omega (arith, counts (f v) (g v) (more v), unseen-lt f g z more was is vs h)

-- while a search continues along the edges es of v, of which those of `rest` are left; s0 is the search without v
pub record Spreading (G : Protection) (s0 s : Search) (v : ℕ) (es rest : List (ℕ × Letters)) : Type 0 where
  pub from : s.from ≡ s0.from
  pub begun : has_seen s s.from ≡ true
  pub at : has_seen s v ≡ true
  pub reached : (q : ℕ) → has_seen s q ≡ true → Reaches G s.from q
  pub listed : (q : ℕ) → Contains s.left.items q → has_seen s q ≡ true
  pub closed : (q z : ℕ) → has_seen s q ≡ true → IsEdge G q z → (q ≡ v) ⊎ (Contains s.left.items q ⊎ (has_seen s z ≡ true))
  pub passed : (e : ℕ × Letters) → Contains es e → Contains rest e ⊎ (has_seen s e.0 ≡ true)
  pub edges : (e : ℕ × Letters) → Contains rest e → IsEdge G v e.0
  pub work : work_left G s ≤ work_left G s0

-- v is taken from the end of the list
pub spreads_from : (G : Protection) (s t : Search) (v : ℕ) → IsSearching G s → t.from ≡ s.from → ((q : ℕ) → has_seen t q ≡ has_seen s q) → s.left.items ≡ t.left.items ++ v ∷ [] →
    Spreading G t t v (edges_of G v) (edges_of G v)
spreads_from G s t v searching from seen popped = record {
  from = refl;
  begun = seen t.from ∙ ap (has_seen s) from ∙ searching.begun;
  at = seen v ∙ at;
  reached = λ q h. subst (λ f. Reaches G f q) (sym from) (searching.reached q (sym (seen q) ∙ h));
  listed = λ q h. seen q ∙ searching.listed q (subst (λ (l : List ℕ). Contains l q) (sym popped) (contains_left t.left.items (v ∷ []) q h));
  closed = λ q z h e. elim (searching.closed q z (sym (seen q) ∙ h) e) [
    | inl waits ↦ elim (contains_append t.left.items (v ∷ []) q (subst (λ (l : List ℕ). Contains l q) popped waits)) [
      | inl left ↦ inr (inl left)
      | inr last ↦ elim last [ inl is ↦ inl is | inr never ↦ absurd never ]
    ]
    | inr there ↦ inr (inr (seen z ∙ there))
  ];
  passed = λ e h. inl h;
  edges = λ e h. (listed_edge G v e h).1;
  work = omega arith;
} where
  at : has_seen s v ≡ true
  at = searching.listed v (subst (λ (l : List ℕ). Contains l v) (sym popped) (contains_right t.left.items (v ∷ []) v (inl refl)))

module _ (G : Protection) (g : IsGraph G) (s0 s t : Search) (v : ℕ) (es rest : List (ℕ × Letters)) (e : ℕ × Letters) (spreading : Spreading G s0 s v es (e ∷ rest)) (from : t.from ≡ s.from) (adds : Visits s t e.0) where
  more : (q : ℕ) → has_seen s q ≡ true → has_seen t q ≡ true
  more q h = adds.seen q ∙ or_right (q == e.0) (has_seen s q) h

  new : has_seen t e.0 ≡ true
  new = adds.seen e.0 ∙ or_left (e.0 == e.0) (has_seen s e.0) (eq-eqb e.0 e.0 refl)

  known : IsEdge G v e.0
  known = spreading.edges e (inl refl)

  either : (q : ℕ) → has_seen t q ≡ true → (q ≡ e.0) ⊎ (has_seen s q ≡ true)
  either q h = elim (or_cases (q == e.0) (has_seen s q) (sym (adds.seen q) ∙ h)) [ inl is ↦ inl (eqb-true q e.0 is) | inr old ↦ inr old ]

  reached_next : Reaches G s.from e.0
  reached_next = let path = spreading.reached v spreading.at in (path.0 ++ e.0 ∷ [], (path.1.0, leads_on G path.0 s.from v e.0 path.1.1 known))

  kept_left : (q : ℕ) → Contains s.left.items q → Contains t.left.items q
  kept_left q h = subst (λ (l : List ℕ). Contains l q) (sym adds.left) (either_way (has_seen s e.0)) where
    either_way : (b : Bool) → Contains (cond b s.left.items (s.left.items ++ e.0 ∷ [])) q
    either_way true = h
    either_way false = contains_left s.left.items (e.0 ∷ []) q h

  new_left : (q : ℕ) → Contains t.left.items q → Contains s.left.items q ⊎ (q ≡ e.0)
  new_left q h = either_way (has_seen s e.0) (subst (λ (l : List ℕ). Contains l q) adds.left h) where
    either_way : (b : Bool) → Contains (cond b s.left.items (s.left.items ++ e.0 ∷ [])) q → Contains s.left.items q ⊎ (q ≡ e.0)
    either_way true h = inl h
    either_way false h = elim (contains_append s.left.items (e.0 ∷ []) q h) [ inl old ↦ inl old | inr last ↦ elim last [ inl is ↦ inr is | inr never ↦ absurd never ] ]

  waits : has_seen s e.0 ≡ false → Contains t.left.items e.0
  waits was =
      let is : t.left.items ≡ s.left.items ++ e.0 ∷ [] = adds.left ∙ ap (λ b. cond b s.left.items (s.left.items ++ e.0 ∷ [])) was in
      subst (λ (l : List ℕ). Contains l e.0) (sym is) (contains_right s.left.items (e.0 ∷ []) e.0 (inl refl))

  closed_new : (z : ℕ) → IsEdge G e.0 z → (e.0 ≡ v) ⊎ (Contains t.left.items e.0 ⊎ (has_seen t z ≡ true))
  closed_new z edge = by (has_seen s e.0) refl where
    by : (b : Bool) → has_seen s e.0 ≡ b → (e.0 ≡ v) ⊎ (Contains t.left.items e.0 ⊎ (has_seen t z ≡ true))
    by true was = elim (spreading.closed e.0 z was edge) [
      | inl is ↦ inl is
      | inr rest ↦ elim rest [ inl left ↦ inr (inl (kept_left e.0 left)) | inr there ↦ inr (inr (more z there)) ]
    ]
    by false was = inr (inl (waits was))

  less_work : work_left G t ≤ work_left G s
  less_work = by (has_seen s e.0) refl where
    by : (b : Bool) → has_seen s e.0 ≡ b → work_left G t ≤ work_left G s
    by true was =
        let same : length t.left.items ≡ length s.left.items = ap length (adds.left ∙ ap (λ b. cond b s.left.items (s.left.items ++ e.0 ∷ [])) was) in
        omega (arith, same, unseen-le (has_seen s) (has_seen t) more (map.keys G.vertices))
    by false was =
        let longer : length t.left.items ≡ length s.left.items + 1 = ap length (adds.left ∙ ap (λ b. cond b s.left.items (s.left.items ++ e.0 ∷ [])) was) ∙ length-append s.left.items (e.0 ∷ []) in
        omega (arith, longer, unseen-lt (has_seen s) (has_seen t) e.0 more was new (map.keys G.vertices) (vertex_listed G e.0 (edge_to G g v e.0 known)))

  pub spreads_on : Spreading G s0 t v es rest
  spreads_on = record {
    from = from ∙ spreading.from;
    begun = ap (has_seen t) from ∙ more s.from spreading.begun;
    at = more v spreading.at;
    reached = λ q h. subst (λ f. Reaches G f q) (sym from) (elim (either q h) [ inl is ↦ subst (Reaches G s.from) (sym is) reached_next | inr old ↦ spreading.reached q old ]);
    listed = λ q h. elim (new_left q h) [ inl old ↦ more q (spreading.listed q old) | inr is ↦ ap (has_seen t) is ∙ new ];
    closed = λ q z h edge. elim (either q h) [
      | inl is ↦ subst (λ p. (p ≡ v) ⊎ (Contains t.left.items p ⊎ (has_seen t z ≡ true))) (sym is) (closed_new z (subst (λ p. IsEdge G p z) is edge))
      | inr old ↦ elim (spreading.closed q z old edge) [
        | inl here ↦ inl here
        | inr rest ↦ elim rest [ inl left ↦ inr (inl (kept_left q left)) | inr there ↦ inr (inr (more z there)) ]
      ]
    ];
    passed = λ f h. elim (spreading.passed f h) [
      | inl left ↦ elim left [ inl is ↦ inr (ap (λ (p : ℕ × Letters). has_seen t p.0) is ∙ new) | inr later ↦ inl later ]
      | inr there ↦ inr (more f.0 there)
    ];
    edges = λ f h. spreading.edges f (inr h);
    work = omega (arith, less_work, spreading.work);
  }

-- all edges of v were followed
pub spread : (G : Protection) → IsGraph G → (s0 s : Search) (v : ℕ) → Spreading G s0 s v (edges_of G v) [] → IsSearching G s
spread G g s0 s v spreading = record {
  begun = spreading.begun;
  reached = spreading.reached;
  listed = spreading.listed;
  closed = λ q z h edge. elim (spreading.closed q z h edge) [
    | inl is ↦ (let out = subst (λ p. IsEdge G p z) is edge in elim (spreading.passed (z, label G v z) (edge_listed G v z (edge_to G g v z out) out)) [ inl never ↦ absurd never | inr there ↦ inr there ])
    | inr rest ↦ rest
  ];
}

-- at the end each path from what was reached leads to what was reached
pub all_reached : (G : Protection) (s : Search) → IsSearching G s → s.left.items ≡ [] → (later : List ℕ) (x y : ℕ) → has_seen s x ≡ true → Leads G x later y → has_seen s y ≡ true
all_reached G s searching none [] x y h e = ap (has_seen s) (sym e) ∙ h
all_reached G s searching none (z ∷ zs) x y h path =
    all_reached G s searching none zs z y (elim (searching.closed x z h path.0) [ inl waits ↦ absurd (subst (λ (l : List ℕ). Contains l x) none waits) | inr there ↦ there ]) path.1

-- the search begins at a vertex
pub starts : (G : Protection) (x : ℕ) (s : Search) → IsVertex G x → Starts x s → IsSearching G s
starts G x s there begin = record {
  begun = begin.seen s.from ∙ eq-eqb s.from x begin.begin;
  reached = λ q h. let is = eqb-true q x (sym (begin.seen q) ∙ h) in subst (λ f. Reaches G f q) (sym begin.begin) ([], (there, sym is));
  listed = λ q h. elim (subst (λ (l : List ℕ). Contains l q) begin.left h) [ inl is ↦ begin.seen q ∙ eq-eqb q x is | inr never ↦ absurd never ];
  closed = λ q z h e. inl (subst (λ (l : List ℕ). Contains l q) (sym begin.left) (inl (eqb-true q x (sym (begin.seen q) ∙ h))));
}
