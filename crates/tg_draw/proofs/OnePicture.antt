-- A vault has one picture under a label: its lists in order have exactly what the vault shows.
use Rattle.std.proofs.Common.{◌≡◌, ◌∙◌, ℕ, ◌<◌, List, [], ◌∷◌, inl, inr, refl, sym, subst, arith}
use Rattle.tg_lists.specs.Promise.Membership.{Contains}
use Rattle.tg_graph.specs.Promise.Opening.{ListedEdge}
use Rattle.tg_graph.specs.Promise.Parts.{Before, Rises}
use Rattle.tg_graph.proofs.ListedLemmas.{same_in_order}
use Rattle.tg_collect.specs.declared.figures.Figure.{Figure}
use Rattle.tg_vault.specs.declared.scene.Scene.{Scene}
use Rattle.tg_vault.specs.Promise.Contents.{Contents}
use Rattle.tg_vault.specs.Promise.Scenes.{IsScene}
use Rattle.tg_draw.specs.Promise.Laws.{OnePicture}
use Rattle.tg_draw.specs.Promise.Picture.{picture, picture_of}

-- two lists with the same edges, both by rising pairs of ends
never_both : (e f : ListedEdge) → Before e f → Before f e → ⊥
never_both e f (inl low) (inl high) = absurd (omega (arith, low, high))
never_both e f (inl low) (inr high) = let same : f.0 ≡ e.0 = high.0 in absurd (omega (arith, low, same))
never_both e f (inr low) (inl high) = let same : e.0 ≡ f.0 = low.0 in absurd (omega (arith, high, same))
never_both e f (inr low) (inr high) = let up : e.2 < f.2 = low.1 in let down : f.2 < e.2 = high.1 in absurd (omega (arith, up, down))

module _ {X : Type 0} (before : X → X → Type 0) (never : (x y : X) → before x y → before y x → ⊥) where
  rest_in : (x y : X) (xs ys : List X) → ((z : X) → Contains xs z → before x z) → x ≡ y → ((z : X) → Contains (x ∷ xs) z → Contains (y ∷ ys) z) → (z : X) → Contains xs z → Contains ys z
  rest_in x y xs ys first same within z h = elim (within z (inr h)) [
    | inl is ↦ (let there : before x x = subst (before x) (is ∙ sym same) (first z h) in absurd (never x x there there))
    | inr later ↦ later
  ]

  same_rising : (xs ys : List X) → Rises before xs → Rises before ys → ((x : X) → Contains xs x → Contains ys x) → ((x : X) → Contains ys x → Contains xs x) → xs ≡ ys
  same_rising [] [] r s f g = refl
  same_rising [] (y ∷ ys) r s f g = absurd (g y (inl refl))
  same_rising (x ∷ xs) [] r s f g = absurd (f x (inl refl))
  same_rising (x ∷ xs) (y ∷ ys) r s f g =
      λ i. head i ∷ same_rising xs ys r.1 s.1 (rest_in x y xs ys r.0 head f) (rest_in y x ys xs s.0 (sym head) g) i where
        head : x ≡ y
        head = elim (f x (inl refl)) [
          | inl is ↦ is
          | inr h ↦ elim (g y (inl refl)) [
            | inl is ↦ sym is
            | inr k ↦ absurd (never y x (s.0 x h) (r.0 y k))
          ]
        ]

module _ (v : Contents) (s t : Scene) (a : IsScene v s) (b : IsScene v t) where
  same_vertices : s.vertices.items ≡ t.vertices.items
  same_vertices =
      same_in_order (λ (f : Figure). f.serial) s.vertices.items t.vertices.items a.shown.by_serial b.shown.by_serial
      (λ f h. (b.shown.vertices f).1 ((a.shown.vertices f).0 h)) (λ f h. (a.shown.vertices f).1 ((b.shown.vertices f).0 h))

  same_edges : s.edges.items ≡ t.edges.items
  same_edges =
      same_rising Before never_both s.edges.items t.edges.items a.shown.by_pairs b.shown.by_pairs
      (λ e h. (b.shown.edges e.0 e.2 e.1).1 ((a.shown.edges e.0 e.2 e.1).0 h)) (λ e h. (a.shown.edges e.0 e.2 e.1).1 ((b.shown.edges e.0 e.2 e.1).0 h))

  -- a picture says nothing else of a scene
  pub same_pictures : (label : List ℕ) → picture s label ≡ picture t label
  same_pictures label = λ i.
      picture_of label ((a.phase ∙ sym b.phase) i) ((a.free_slots ∙ sym b.free_slots) i) ((a.free_cells ∙ sym b.free_cells) i) ((a.names ∙ sym b.names) i) ((a.seats ∙ sym b.seats) i) (same_vertices i) (same_edges i)

pub one_picture : OnePicture
one_picture v label first second a b = a.is ∙ same_pictures v a.scene b.scene a.shows b.shows label ∙ sym b.is
