-- Two arrays as one list of pairs: what is read of it, and what each write leaves.
use Rattle.std.proofs.Common.{◌≡◌, ℕ, zero, suc, ◌<◌, ◌≤◌, List, [], ◌∷◌, ◌++◌, length, inl, inr, map, Some, sym, ◌∙◌, ap, refl, set, get_or, min, arith}
use Rattle.std.proofs.Math.Nat.{le-min, min-eq_left, min-le_left, min-le_right}
use Rattle.std.proofs.lemmas.List.{map-set}
use Rattle.std.proofs.lemmas.Option.{get_or_from_slice_get, slice_get-map, slice_get_cases}
use Rattle.std.proofs.lemmas.Slice.Zip.{firsts-zip, length-zip, seconds-zip}
use Rattle.std.specs.List.{slice_get, zip}
use Rattle.std.specs.Option.{option_map}
use Rattle.tg_lists.specs.Promise.Columns.{HasLeft, HasRight, with_left, with_right}

-- With room for one more pair, both arrays have room for it; and the room grows with theirs.
pub both_room : (n m a b : ℕ) → n ≡ m → n < min a b → (n < a) × (m < b)
both_room n m a b same room = (omega (arith, room, min-le_left a b), omega (arith, room, same, min-le_right a b))

pub room_grows : (a b c d : ℕ) → a ≤ c → b ≤ d → min a b ≤ min c d
room_grows a b c d first second = let left = min-le_left a b in let right = min-le_right a b in le-min (omega arith) (omega arith)

module _ {L R : Type 0} where
  -- Both arrays have as many elements as there are pairs.
  pub left_length : (ls : List L) (rs : List R) → length ls ≡ length rs → length (zip ls rs) ≡ length ls
  left_length ls rs k = length-zip ls rs ∙ min-eq_left (omega (arith, k))

  pub right_length : (ls : List L) (rs : List R) → length ls ≡ length rs → length (zip ls rs) ≡ length rs
  right_length ls rs k = left_length ls rs k ∙ k

  -- There is a pair, and what was read of an array is half of it.
  pub there : (ps : List (L × R)) (i : ℕ) → i < length ps → (p : L × R) × (slice_get ps i ≡ Some p)
  there ps i within = elim (slice_get_cases ps i).1 [ inl x ↦ (x.0, x.2) | inr past ↦ absurd (omega (arith, past.0, within)) ]

  pub left_read : (ls : List L) (rs : List R) (i : ℕ) (a : L) → length ls ≡ length rs → i < length (zip ls rs) → a ≡ get_or ls i a → HasLeft (zip ls rs) i a
  left_read ls rs i a k within read =
      let pair = there (zip ls rs) i within in
      let same : pair.0.0 ≡ a = sym (get_or_from_slice_get (map (λ p. p.0) (zip ls rs)) i pair.0.0 a (slice_get-map (λ p. p.0) (zip ls rs) i ∙ ap (option_map (λ p. p.0)) pair.1)) ∙ ap (λ l. get_or l i a) (firsts-zip ls rs (sym k)) ∙ sym read in
      record { other = pair.0.1; here = pair.1 ∙ ap (λ x. Some (x, pair.0.1)) same }

  pub right_read : (ls : List L) (rs : List R) (i : ℕ) (b : R) → length ls ≡ length rs → i < length (zip ls rs) → b ≡ get_or rs i b → HasRight (zip ls rs) i b
  right_read ls rs i b k within read =
      let pair = there (zip ls rs) i within in
      let same : pair.0.1 ≡ b = sym (get_or_from_slice_get (map (λ p. p.1) (zip ls rs)) i pair.0.1 b (slice_get-map (λ p. p.1) (zip ls rs) i ∙ ap (option_map (λ p. p.1)) pair.1)) ∙ ap (λ l. get_or l i b) (seconds-zip ls rs (sym k)) ∙ sym read in
      record { other = pair.0.0; here = pair.1 ∙ ap (λ x. Some (pair.0.0, x)) same }

  -- A pair is appended, or written, or half of it is.
  pub appended : (ls : List L) (rs : List R) (a : L) (b : R) → length ls ≡ length rs → zip (ls ++ a ∷ []) (rs ++ b ∷ []) ≡ zip ls rs ++ (a, b) ∷ []
  appended [] [] a b k = refl
  appended [] (y ∷ rs) a b k = absurd (omega (arith, k))
  appended (x ∷ ls) [] a b k = absurd (omega (arith, k))
  appended (x ∷ ls) (y ∷ rs) a b k = ap (λ (l : List (L × R)). (x, y) ∷ l) (appended ls rs a b (omega (arith, k)))

  pub both_set : (ls : List L) (rs : List R) (i : ℕ) (a : L) (b : R) → zip (set ls i a) (set rs i b) ≡ set (zip ls rs) i (a, b)
  both_set [] rs i a b = refl
  both_set (x ∷ ls) [] zero a b = refl
  both_set (x ∷ ls) [] (suc i) a b = refl
  both_set (x ∷ ls) (y ∷ rs) zero a b = refl
  both_set (x ∷ ls) (y ∷ rs) (suc i) a b = ap (λ (l : List (L × R)). (x, y) ∷ l) (both_set ls rs i a b)

  pub left_set : (ls : List L) (rs : List R) (i : ℕ) (a : L) → zip (set ls i a) rs ≡ with_left (zip ls rs) i a
  left_set [] rs i a = refl
  left_set (x ∷ ls) [] zero a = refl
  left_set (x ∷ ls) [] (suc i) a = refl
  left_set (x ∷ ls) (y ∷ rs) zero a = refl
  left_set (x ∷ ls) (y ∷ rs) (suc i) a = ap (λ (l : List (L × R)). (x, y) ∷ l) (left_set ls rs i a)

  pub right_set : (ls : List L) (rs : List R) (i : ℕ) (b : R) → zip ls (set rs i b) ≡ with_right (zip ls rs) i b
  right_set [] rs i b = refl
  right_set (x ∷ ls) [] zero b = refl
  right_set (x ∷ ls) [] (suc i) b = refl
  right_set (x ∷ ls) (y ∷ rs) zero b = refl
  right_set (x ∷ ls) (y ∷ rs) (suc i) b = ap (λ (l : List (L × R)). (x, y) ∷ l) (right_set ls rs i b)

  -- Half of a pair that was read is written.
  pub with_left_set : (ps : List (L × R)) (i : ℕ) (a w : L) (h : HasLeft ps i a) → with_left ps i w ≡ set ps i (w, h.other)
  with_left_set [] i a w h = refl
  with_left_set (p ∷ ps) zero a w h = let here = h.here in let same : p ≡ (a, h.other) = cc in ap (λ (q : L × R). (w, q.1) ∷ ps) same
  with_left_set (p ∷ ps) (suc i) a w h = ap (λ (l : List (L × R)). p ∷ l) (with_left_set ps i a w (record { other = h.other; here = h.here }))

  pub with_right_set : (ps : List (L × R)) (i : ℕ) (b w : R) (h : HasRight ps i b) → with_right ps i w ≡ set ps i (h.other, w)
  with_right_set [] i b w h = refl
  with_right_set (p ∷ ps) zero b w h = let here = h.here in let same : p ≡ (h.other, b) = cc in ap (λ (q : L × R). (q.0, w) ∷ ps) same
  with_right_set (p ∷ ps) (suc i) b w h = ap (λ (l : List (L × R)). p ∷ l) (with_right_set ps i b w (record { other = h.other; here = h.here }))

  -- The pairs seen as other values: what is read of one, and what is there once a pair, or half of it, has changed.
  module _ {X : Type 0} (f : L × R → X) where
    pub seen : (ps : List (L × R)) (i : ℕ) (p : L × R) (d : X) → slice_get ps i ≡ Some p → get_or (map f ps) i d ≡ f p
    seen ps i p d here = get_or_from_slice_get (map f ps) i (f p) d (slice_get-map f ps i ∙ ap (option_map f) here)

    pub changed : (g : X → X) (ps : List (L × R)) (i : ℕ) (p q : L × R) (d : X) → slice_get ps i ≡ Some p → f q ≡ g (f p) → map f (set ps i q) ≡ set (map f ps) i (g (get_or (map f ps) i d))
    changed g ps i p q d here changes = map-set f ps i q ∙ ap (set (map f ps) i) (changes ∙ ap g (sym (seen ps i p d here)))

    pub left_changed : (g : X → X) (ps : List (L × R)) (i : ℕ) (a w : L) (d : X) (h : HasLeft ps i a) → f (w, h.other) ≡ g (f (a, h.other)) → map f (with_left ps i w) ≡ set (map f ps) i (g (get_or (map f ps) i d))
    left_changed g ps i a w d h changes = ap (map f) (with_left_set ps i a w h) ∙ changed g ps i (a, h.other) (w, h.other) d h.here changes

    pub right_changed : (g : X → X) (ps : List (L × R)) (i : ℕ) (b w : R) (d : X) (h : HasRight ps i b) → f (h.other, w) ≡ g (f (h.other, b)) → map f (with_right ps i w) ≡ set (map f ps) i (g (get_or (map f ps) i d))
    right_changed g ps i b w d h changes = ap (map f) (with_right_set ps i b w h) ∙ changed g ps i (h.other, b) (h.other, w) d h.here changes
