-- From a vector's mask to bytes that are ASCII.
use Rattle.std.proofs.Common.{◌≡◌, ℕ, zero, suc, ◌+◌, ◌-◌, ◌%◌, ◌^◌, ◌<◌, ◌≤◌, leb, Bool, true, false, cond, ◌==◌, List, [], ◌∷◌, length, drop, get_or, map, replicate, Fits, w8, refl, sym, ap, ◌∙◌, subst, ◌⊎◌, inl, inr, arith, get_or-take, get_or-drop}
use Rattle.std.proofs.lemmas.Bool.{cases_lt, eqb-true, leb-false}
use Rattle.std.proofs.lemmas.Simd.{length-chunk, chunk-fits, zip2_splat_left}
use Rattle.std.specs.Bool.{OnTrue}
use Rattle.std.specs.Str.{IsAscii}
use lib.Lanes.{chunk, mask_l, zip2, top}
use Rattle.tg_wire.specs.Inner.Runs.{AsciiBetween}
use Rattle.tg_wire.proofs.StopsLemmas.{is_at_most, masked}

none_high : (xs : List ℕ) → mask_l (map (leb 128) xs) ≡ 0 → (i : ℕ) → get_or xs i 0 < 128
none_high [] e i = omega arith
none_high (x ∷ xs) e zero = go (leb 128 x) refl (omega arith)
  where
    go : (t : Bool) → leb 128 x ≡ t → ◌≡◌ {A = ℕ} (cond t 1 0) 0 → x < 128
    go true p q = absurd (omega arith)
    go false p q = leb-false _ _ p
none_high (x ∷ xs) e (suc i) = none_high xs (omega arith) i

in_chunk : (d : List ℕ) (i n : ℕ) → ((k : ℕ) → get_or (chunk i n d) k 0 < 128) → AsciiBetween d i (i + n)
in_chunk d i n low k p q =
    let back : i + (k - i) ≡ k = omega arith in
    subst (λ x. x < 128) (get_or-take n (drop i d) (k - i) 0 (omega arith) ∙ get_or-drop i d (k - i) 0 ∙ ap (λ j. get_or d j 0) back) (low (k - i))

on_true : (b : Bool) (P : Type 0) → (b ≡ true → P) → OnTrue b P
on_true true P f = f refl
on_true false P f = tt

-- the test of a vector of n lanes, as the code makes it
pub ascii_from_lanes : (d : List ℕ) (i n : ℕ) → i + n ≤ length d → n ≤ 64 → ((k : ℕ) → Fits w8 (get_or d k 0))
    → OnTrue (mask_l (map (top 7) (zip2 is_at_most (replicate n 128) (chunk i n d))) % 2 ^ 64 == 0) (AsciiBetween d i (i + n))
ascii_from_lanes d i n room few fits =
    let v = chunk i n d in
    let long = length-chunk i n d room in
    let mask = masked (is_at_most 128) (leb 128) v _ (omega arith) (chunk-fits w8 i n d fits) (zip2_splat_left is_at_most 128 n v long) tt in
    on_true _ _ (λ e. in_chunk d i n (none_high v (sym mask ∙ eqb-true _ 0 e)))

past : (d : List ℕ) (i : ℕ) → length d ≤ i → get_or d i 0 < 128
past [] i p = omega arith
past (x ∷ xs) zero p = absurd (omega arith)
past (x ∷ xs) (suc i) p = past xs i (omega arith)

pub all_ascii : (d : List ℕ) → AsciiBetween d 0 (length d) → IsAscii d
all_ascii d h i = go (cases_lt i (length d))
  where
    go : (i < length d) ⊎ (length d ≤ i) → get_or d i 0 < 128
    go (inl p) = h i (omega arith) p
    go (inr p) = past d i p
