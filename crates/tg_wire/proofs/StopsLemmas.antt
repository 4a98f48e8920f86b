-- Where the plain text of a string stops, seen many bytes at a time through a mask of the bytes at which it does.
use Rattle.std.proofs.Common.{◌≡◌, ℕ, zero, suc, ◌+◌, ◌*◌, ◌%◌, ◌^◌, ◌<◌, ◌≤◌, ltb, leb, Bool, true, false, not, ◌&&◌, ◌||◌, cond, eqb, T, List, [], ◌∷◌, map, replicate, length, take, drop, ◌-◌, refl, sym, ap, ap₂, ◌∙◌, subst, ◌⊎◌, inl, inr, arith, w8, Fits}
use Rattle.std.proofs.lemmas.Bool.{cases_order, eq-eqb, ne_eqb}
use Rattle.std.proofs.lemmas.List.{get_or-take, length-map, length-drop, length-take}
use Rattle.std.proofs.lemmas.List.Folds.{prefix_len-append}
use Rattle.std.proofs.lemmas.List.Sums.{prefix_len-le-length, prefix_len_passes}
use Rattle.std.proofs.lemmas.Simd.{chunk-drop, length-chunk, leading_from_mask_l, trailing_mask_l, mask_l-mod}
use Rattle.std.specs.List.{prefix_len}
use Rattle.json.specs.Run.{is_stop, is_plain}
use Rattle.tg_rights.specs.Promise.Escapes.{NeedsNoEscape, is_escaped}
use lib.Bits.{bit_or}
use lib.Count.{count_trailing_zeros}
use lib.Lanes.{zip2, chunk, mask_l, sel_l, top, Each1}

-- ---- the mask of a comparison of bytes, held to a test at each of the 256 bytes

abbrev pub all_below : (ℕ → Bool) → ℕ → Bool
all_below p zero = true
all_below p (suc n) = p n && all_below p n

both : (a b : Bool) → T (a && b) → T a × T b
both true b h = (tt, h)
both false b h = absurd h

each_below : (p : ℕ → Bool) (n : ℕ) → T (all_below p n) → (i : ℕ) → i < n → T (p i)
each_below p zero h i lt = absurd (omega arith)
each_below p (suc n) h i lt = go (each_below p n (both (p n) (all_below p n) h).1 i) (cases_order i n)
  where
    go : (i < n → T (p i)) → (i ≡ n) ⊎ ((i < n) ⊎ (n < i)) → T (p i)
    go below (inl e) = subst (λ x. T (p x)) (sym e) (both (p n) (all_below p n) h).0
    go below (inr (inl l)) = below l
    go below (inr (inr g)) = let no : ⊥ = omega arith in absurd no

abbrev pub agree : Bool → Bool → Bool
agree true b = b
agree false b = not b

agree_is : (a b : Bool) → T (agree a b) → a ≡ b
agree_is true true h = refl
agree_is false false h = refl
agree_is true false h = absurd h
agree_is false true h = absurd h

abbrev pub equals : ℕ → ℕ → ℕ
equals a b = cond (eqb a b) 255 0

abbrev pub is_less : ℕ → ℕ → ℕ
is_less a b = cond (ltb a b) 255 0

abbrev pub is_at_most : ℕ → ℕ → ℕ
is_at_most a b = cond (leb a b) 255 0

abbrev pub less_by : ℕ → ℕ → ℕ
less_by a b = (a + (256 - b)) % 256

zip2-map : (f g : ℕ → ℕ) (xs : List ℕ) → zip2 bit_or (map f xs) (map g xs) ≡ map (λ x. bit_or (f x) (g x)) xs
zip2-map f g [] = refl
zip2-map f g (x ∷ xs) = ap (λ r. bit_or (f x) (g x) ∷ r) (zip2-map f g xs)

pub either : (f g : ℕ → ℕ) (v : List ℕ) {a b : List ℕ} → a ≡ map f v → b ≡ map g v → zip2 bit_or a b ≡ map (λ x. bit_or (f x) (g x)) v
either f g v p q = ap₂ (zip2 bit_or) p q ∙ zip2-map f g v

each_byte : (f : ℕ → ℕ) (p : ℕ → Bool) → T (all_below (λ x. agree (top 7 (f x)) (p x)) 256) → (v : List ℕ) → Each1 (Fits w8) v → map (top 7) (map f v) ≡ map p v
each_byte f p all [] fits = refl
each_byte f p all (x ∷ xs) fits = ap₂ (λ a b. a ∷ b) (agree_is _ _ (each_below (λ y. agree (top 7 (f y)) (p y)) 256 all x fits.0.fits)) (each_byte f p all xs fits.1)

-- what is computed byte by byte is the test, if it is at each of the 256 bytes
pub masked : (f : ℕ → ℕ) (p : ℕ → Bool) (v z : List ℕ) → length v ≤ 64 → Each1 (Fits w8) v → z ≡ map f v → T (all_below (λ x. agree (top 7 (f x)) (p x)) 256)
    → mask_l (map (top 7) z) % 2 ^ 64 ≡ mask_l (map p v)
masked f p v z short fits e all =
    ap (λ l. mask_l l % 2 ^ 64) (ap (map (top 7)) e ∙ each_byte f p all v fits) ∙ mask_l-mod (map p v) 64 (omega (arith, length-map v p))

-- a choice between two bytes, by what is found at each
pub chosen : (p : ℕ → Bool) (a b : ℕ) (v : List ℕ) (n : ℕ) → length v ≡ n → sel_l (map p v) (replicate n a) (replicate n b) ≡ map (λ x. cond (p x) a b) v
chosen p a b [] n e = refl
chosen p a b (x ∷ xs) zero e = absurd (omega arith)
chosen p a b (x ∷ xs) (suc n) e = ap (λ l. cond (p x) a b ∷ l) (chosen p a b xs n (omega arith))

either_bit : (a b : Bool) (m n : ℕ) → (m ≡ 0 → n ≡ 0) → cond (a || b) 1 0 + 2 * m ≡ 0 → cond a 1 0 + 2 * n ≡ 0
either_bit true b m n ih e = let no : ⊥ = omega arith in absurd no
either_bit false true m n ih e = let no : ⊥ = omega arith in absurd no
either_bit false false m n ih e = let z = ih (omega arith) in omega arith

-- no byte passes a test if none passes that or another
pub none_of_either : (p q : ℕ → Bool) (v : List ℕ) → mask_l (map (λ x. p x || q x) v) ≡ 0 → mask_l (map p v) ≡ 0
none_of_either p q [] e = refl
none_of_either p q (x ∷ xs) e = either_bit (p x) (q x) _ _ (none_of_either p q xs) e

-- ---- a run of plain bytes

pub run_bound : (d : List ℕ) (i : ℕ) → i ≤ length d → i + prefix_len is_plain (drop i d) ≤ length d
run_bound d i h = omega (arith, prefix_len-le-length is_plain (drop i d), length-drop i d)

none_stops : (b : Bool) (n l m : ℕ) → n ≤ l → cond (not b) (1 + n) 0 ≡ 1 + l → (n ≡ l → m ≡ 0) → cond b 1 0 + 2 * m ≡ 0
none_stops true n l m le e ih = let no : ⊥ = omega arith in absurd no
none_stops false n l m le e ih = let z = ih (omega arith) in omega arith

all_plain : (xs : List ℕ) → prefix_len is_plain xs ≡ length xs → mask_l (map is_stop xs) ≡ 0
all_plain [] e = refl
all_plain (x ∷ xs) e = none_stops (is_stop x) _ (length xs) _ (prefix_len-le-length is_plain xs) (omega arith) (all_plain xs)

split : (d : List ℕ) (i n : ℕ)
    → prefix_len is_plain (drop i d) ≡ cond (eqb (prefix_len is_plain (chunk i n d)) (length (chunk i n d))) (length (chunk i n d) + prefix_len is_plain (drop (i + n) d)) (prefix_len is_plain (chunk i n d))
split d i n = ap (prefix_len is_plain) (chunk-drop i n d) ∙ prefix_len-append is_plain (chunk i n d) (drop (i + n) d)

-- no byte of the next n stops it
pub run_through : (d : List ℕ) (i n : ℕ) → i + n ≤ length d → mask_l (map is_stop (chunk i n d)) ≡ 0 → prefix_len is_plain (drop i d) ≡ n + prefix_len is_plain (drop (i + n) d)
run_through d i n room none =
    let c = chunk i n d in
    split d i n ∙ ap (λ b. cond b (length c + prefix_len is_plain (drop (i + n) d)) (prefix_len is_plain c)) (eq-eqb _ _ (leading_from_mask_l is_stop c none))
    ∙ ap (λ k. k + prefix_len is_plain (drop (i + n) d)) (length-chunk i n d room)

-- one of them does
pub run_stops : (d : List ℕ) (i n : ℕ) → i + n ≤ length d → n ≤ 64 → 0 < mask_l (map is_stop (chunk i n d)) → prefix_len is_plain (drop i d) ≡ count_trailing_zeros 64 (mask_l (map is_stop (chunk i n d)))
run_stops d i n room short some =
    let c = chunk i n d in
    split d i n ∙ ap (λ b. cond b (length c + prefix_len is_plain (drop (i + n) d)) (prefix_len is_plain c)) (ne_eqb _ _ (λ (e : prefix_len is_plain c ≡ length c). omega (arith, all_plain c e)))
    ∙ sym (trailing_mask_l is_stop 64 c (omega (arith, length-chunk i n d room)) some)

-- no byte of it needs an escape
pub run_is_plain : (d : List ℕ) (from end : ℕ) → end ≡ from + prefix_len is_plain (drop from d) → NeedsNoEscape (take (end - from) (drop from d))
run_is_plain d from end is k below =
    let xs = drop from d in
    let inside : k < end - from = omega (arith, length-take (end - from) xs) in
    ap (λ x. not (is_escaped x)) (get_or-take (end - from) xs k 0 inside) ∙ prefix_len_passes is_plain xs k 0 (omega (arith, is))
