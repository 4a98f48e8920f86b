-- Why nothing is missing from what a vertex could come to have.
use Rattle.std.proofs.Common.{◌≡◌, ◌≢◌, ℕ, ◌∷◌, [], ◌++◌, List, true, false, refl, sym, ap, subst, ◌∙◌, ◌⊎◌, inl, inr, Some, None}
use Rattle.std.specs.Prelude.{Option}
use Rattle.std.specs.Map.{keys_of}
use Rattle.std.specs.Option.{is_some, option_map}
use Rattle.tg_lists.specs.Promise.Membership.{Contains}
use Rattle.tg_lists.proofs.MembershipLemmas.{contains_append, contains_left, contains_right}
use Rattle.tg_rights.specs.Promise.Letters.{Letters, Right, is_none}
use Rattle.tg_rights.proofs.LettersLemmas.{right_some}
use Rattle.tg_graph.specs.declared.vertex.Vertex.{Vertex}
use Rattle.tg_graph.specs.Promise.Derivations.{CanShare}
use Rattle.tg_graph.specs.Promise.Protection.{IsEdge, IsGraph, IsVertex, Protection, kind_of, label, vertex}
use Rattle.tg_sharing.specs.Promise.Fetching.{alone}
use Rattle.tg_sharing.specs.Inner.Growing.{KeepsAll}
use Rattle.tg_sharing.specs.Promise.Laws.{WithheldForEver}
use Rattle.tg_sharing.specs.Inner.Marking.{is_bridged, is_spanned}
use Rattle.tg_sharing.specs.Promise.Prospects.{AreCould, IsCould}
use Rattle.tg_sharing.specs.Inner.Prospects.{IsGathered}
use Rattle.tg_graph.specs.Promise.EachCommand.{HasOver}
use Rattle.tg_sharing.specs.Promise.Spans.{AreClosed}
use Rattle.tg_sharing.specs.declared.marks.Marks.{Marks}
use Rattle.tg_sharing.specs.declared.prospect.Could.{Could}
use Rattle.tg_sharing.proofs.LabelsLemmas.{Labels}
use Rattle.tg_sharing.proofs.SharingLemmas.{alone_has}

-- a vertex with a kind is one
pub kind_vertex : (G : Protection) (v : ℕ) → is_some (kind_of G v) ≡ true → IsVertex G v
kind_vertex G v h = by (vertex G v) h where
  by : (o : Option Vertex) → is_some (option_map (λ e. e.kind) o) ≡ true → is_some o ≡ true
  by None e = absurd (cc e)
  by (Some e) h = refl

-- what is listed are edges of H over vertices of G
abbrev pub AreEdgesOf : Protection → Protection → ℕ → List (ℕ × Letters) → Type 0
AreEdgesOf G H from found = (y : ℕ) (α : Letters) → Contains found (y, α) → IsVertex G y × IsEdge H from y × (α ≡ label H from y)

-- each edge is still to come, or listed
abbrev pub AreToCome : Protection → Protection → ℕ → Labels → List (ℕ × Letters) → Type 0
AreToCome G H from left found = (y : ℕ) → IsVertex G y → IsEdge H from y → Contains (keys_of left) (from, y) ⊎ Contains found (y, label H from y)

-- one more edge is listed
module _ (G H : Protection) (from x y : ℕ) (l : Letters) (found : List (ℕ × Letters)) (own : x ≡ from) (is : l ≡ label H x y) where
  here : l ≡ label H from y
  here = is ∙ ap (λ v. label H v y) own

  pub edges_more : IsVertex G y → is_none l ≡ false → AreEdgesOf G H from found → AreEdgesOf G H from (found ++ (y, l) ∷ [])
  edges_more there some edges z α h = elim (contains_append found ((y, l) ∷ []) (z, α) h) [
    | inl before ↦ edges z α before
    | inr last ↦ elim last [
      | inl same ↦
          let to : z ≡ y = ap (λ (p : ℕ × Letters). p.0) same in
          let label_is : α ≡ l = ap (λ (p : ℕ × Letters). p.1) same in
          (subst (IsVertex G) (sym to) there, ap is_none (ap (label H from) to ∙ sym here) ∙ some, label_is ∙ here ∙ ap (label H from) (sym to))
      | inr never ↦ absurd never
    ]
  ]

  pub come_more : (rest : Labels) → AreToCome G H from (((x, y), l) ∷ rest) found → AreToCome G H from rest (found ++ (y, l) ∷ [])
  come_more rest come z v edge = elim (come z v edge) [
    | inl left ↦ elim left [
      | inl same ↦
          let to : z ≡ y = ap (λ (p : ℕ × ℕ). p.1) same in
          inr (contains_right found ((y, l) ∷ []) (z, label H from z) (inl (λ i. (to i, (ap (label H from) to ∙ sym here) i))))
      | inr later ↦ inl later
    ]
    | inr listed ↦ inr (contains_left found ((y, l) ∷ []) (z, label H from z) listed)
  ]

-- what the vertex lacks in the end, it never has
pub never_gathered : WithheldForEver → (G W : Protection) (m : Marks) (from : ℕ) → IsGraph G → IsVertex G from → m.from ≡ from → AreClosed G from (is_spanned m) (is_bridged m) → KeepsAll G W →
    ((u y : ℕ) → IsEdge G u y → IsGathered G W m u y) →
    (y : ℕ) (r : Right) → IsVertex G y → y ≢ from → (HasOver W from r y → ⊥) → CanShare G (record { from = from; to = y; rights = alone r }) → ⊥
never_gathered law G W m from g there own closed keeps gathered y r v apart lacks =
    law G (record { from = from; to = y; rights = alone r }) (is_spanned m) (is_bridged m) r g (g.below_next from there) (g.below_next y v) closed (alone_has r)
    (λ u either h. elim either [
      | inl is ↦ lacks (keeps.rights from r y (subst (λ (x : ℕ). HasOver G x r y) is h))
      | inr spanned ↦ lacks (subst (λ (x : ℕ). HasOver W x r y) own (gathered u y (right_some (label G u y) r h) (λ is. apart (is ∙ own)) spanned r h))
    ])

-- one more vertex is asked for
module _ (G : Protection) (α : Letters) (to : ℕ) (asked : List ℕ) (found : List (ℕ × Could)) (are : AreCould G α to asked found) (v : ℕ) where
  pub could_more : IsVertex G v → (c : Could) → IsCould G (record { from = v; to = to; rights = α }) c → AreCould G α to (asked ++ v ∷ []) (found ++ (v, c) ∷ [])
  could_more there c is = record {
    sound = λ w d h. elim (contains_append found ((v, c) ∷ []) (w, d) h) [
      | inl before ↦ let old = are.sound w d before in (contains_left asked (v ∷ []) w old.0, old.1, old.2)
      | inr last ↦ elim last [
        | inl same ↦
            let one : w ≡ v = ap (λ (p : ℕ × Could). p.0) same in
            let two : d ≡ c = ap (λ (p : ℕ × Could). p.1) same in (
              contains_right asked (v ∷ []) w (inl one),
              subst (IsVertex G) (sym one) there,
              subst (λ (e : Could). IsCould G (record { from = w; to = to; rights = α }) e) (sym two) (subst (λ (u : ℕ). IsCould G (record { from = u; to = to; rights = α }) c) (sym one) is),
            )
        | inr never ↦ absurd never
      ]
    ];
    whole = λ w h vertex. elim (contains_append asked (v ∷ []) w h) [
      | inl before ↦ let old = are.whole w before vertex in (old.0, contains_left found ((v, c) ∷ []) (w, old.0) old.1)
      | inr last ↦ elim last [
        | inl one ↦ (c, contains_right found ((v, c) ∷ []) (w, c) (inl (λ i. (one i, c))))
        | inr never ↦ absurd never
      ]
    ];
  }

  pub could_skip : (IsVertex G v → ⊥) → AreCould G α to (asked ++ v ∷ []) found
  could_skip none = record {
    sound = λ w d h. let old = are.sound w d h in (contains_left asked (v ∷ []) w old.0, old.1, old.2);
    whole = λ w h vertex. elim (contains_append asked (v ∷ []) w h) [
      | inl before ↦ are.whole w before vertex
      | inr last ↦ elim last [
        | inl one ↦ absurd (none (subst (IsVertex G) one vertex))
        | inr never ↦ absurd never
      ]
    ];
  }

-- and a vertex has a kind
pub vertex_kind : (G : Protection) (v : ℕ) → is_some (kind_of G v) ≡ false → IsVertex G v → ⊥
vertex_kind G v none there = by (vertex G v) none there where
  by : (o : Option Vertex) → is_some (option_map (λ e. e.kind) o) ≡ false → is_some o ≡ true → ⊥
  by None e h = absurd (cc h)
  by (Some w) e h = absurd (cc e)
