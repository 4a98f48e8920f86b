-- A table of free slots.
use Rattle.std.proofs.Common.{◌≡◌, ℕ, zero, suc, ◌+◌, ◌<◌, ◌≤◌, length, None, inl, inr, sym, ◌∙◌, refl, arith, get_or, sum_by}
use Rattle.std.proofs.lemmas.List.Sums.{sum_by-cons}
use Rattle.std.proofs.lemmas.Bool.{cases_eq}
use Rattle.tg_lists.specs.Promise.Membership.{Contains, Distinct}
use Rattle.tg_slots.specs.Promise.Table.{Free, mark_of, IsSound, if_free, nones, indices, fresh}

pub nones_length : (n : ℕ) → length (nones n) ≡ n
nones_length zero = refl
nones_length (suc n) = let r = nones_length n in omega (arith, r)

pub nones_free : (n i : ℕ) → mark_of (get_or (nones n) i None) ≡ Free
nones_free zero i = refl
nones_free (suc n) zero = refl
nones_free (suc n) (suc i) = nones_free n i

nones_sum : (n : ℕ) → sum_by if_free (nones n) ≡ n
nones_sum zero = refl
nones_sum (suc n) = sum_by-cons if_free None (nones n) ∙ (let r = nones_sum n in omega (arith, r))

pub indices_length : (i n : ℕ) → length (indices i n) ≡ n
indices_length i zero = refl
indices_length i (suc n) = let r = indices_length (suc i) n in omega (arith, r)

indices_within : (i n j : ℕ) → Contains (indices i n) j → (i ≤ j) × (j < i + n)
indices_within i zero j h = absurd h
indices_within i (suc n) j h = elim h [
  | inl e ↦ (omega (arith, e), omega (arith, e))
  | inr m ↦ let r = indices_within (suc i) n j m in let a = r.0 in let b = r.1 in (omega (arith, a), omega (arith, b))
]

indices_hold : (i n j : ℕ) → i ≤ j → j < i + n → Contains (indices i n) j
indices_hold i zero j a b = absurd (omega arith)
indices_hold i (suc n) j a b = elim (cases_eq j i) [
  | inl e ↦ inl e
  | inr other ↦ inr (indices_hold (suc i) n j (omega arith) (omega arith))
]

indices_distinct : (i n : ℕ) → Distinct (indices i n)
indices_distinct i zero = tt
indices_distinct i (suc n) = (λ h. let r = (indices_within (suc i) n i h).0 in omega (arith, r), indices_distinct (suc i) n)

pub fresh_sound : (n : ℕ) → IsSound (fresh n)
fresh_sound n =
    let size : length (nones n) ≡ n = nones_length n in
    record {
      free_listed = λ i h f. indices_hold 0 n i (omega arith) (omega (arith, size));
      listed_free = λ i h. let r = (indices_within 0 n i h).1 in (omega (arith, r, size), nones_free n i);
      free_once = indices_distinct 0 n;
      free_count = indices_length 0 n ∙ sym (nones_sum n);
      listed_grey = λ i h. absurd h;
      grey_once = tt;
    }
