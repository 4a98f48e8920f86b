-- The number that digits write.
use Rattle.std.proofs.Common.{◌≡◌, ℕ, ◌^◌, ◌<◌, ◌+◌, ◌*◌, suc, Bool, true, false, cond, List, [], ◌∷◌, ◌++◌, length, take, get_or, Some, refl, sym, ap, ◌∙◌, subst, arith, append-nil, lt-ltb, ne_eqb}
use Rattle.std.specs.List.{prefix_len}
use Rattle.std.specs.Char.{digit_value, is_ascii_digit}
use Rattle.std.specs.Str.Parse.{AllDigits, digits_value, digits_value_after}
use Rattle.fast_float.specs.Text.{Parts, scan, IsWellFormed}
use Rattle.fast_float.proofs.Writing.{scan-text_of}
use Rattle.serde_json.specs.Data.{unsigned}
use Rattle.serde_json.specs.Read.{number_of, number_from}
use Rattle.tg_wire.specs.Inner.Runs.{front}

-- only digits, as the parts of a numeral
abbrev digits : List ℕ → Parts
digits ds = record { whole = ds; point = false; fraction = []; exponent_negative = false; exponent = []; len = length (ds ++ []) }

no_minus : (ds : List ℕ) → AllDigits 10 ds → 0 < length ds → get_or ds 0 0 ≡ 45 → ⊥
no_minus [] h some e = omega arith
no_minus (d ∷ ds) h some e = let digit : digit_value d < 10 = h.0 in let is : d ≡ 45 = e in grind arith

read_digits : (ds : List ℕ) → AllDigits 10 ds → 0 < length ds → number_of ds ≡ number_from false (digits ds)
unfolding number_of
read_digits ds all some =
    let formed : IsWellFormed (digits ds) = record { whole_digits = all; fraction_digits = tt; exponent_digits = tt; no_point = λ _. refl; no_exponent = λ _. refl; len_is = refl } in
    rw (ne_eqb (get_or ds 0 0) 45 (no_minus ds all some)) (ap (number_from false) (ap scan (sym (append-nil ds)) ∙ scan-text_of (digits ds) formed))

pub number_of-digits : (ds : List ℕ) → AllDigits 10 ds → 0 < length ds → digits_value 10 ds < 2 ^ 64 → number_of ds ≡ Some (unsigned (digits_value 10 ds))
number_of-digits ds all some small = read_digits ds all some ∙ rw (lt-ltb _ _ some, append-nil, lt-ltb _ _ small) refl

digits_run : (b : Bool) (x n : ℕ) (xs : List ℕ) → is_ascii_digit x ≡ b → AllDigits 10 (take n xs) → AllDigits 10 (take (cond b (1 + n) 0) (x ∷ xs))
digits_run false x n xs is all = tt
digits_run true x n xs is all =
    let small : digit_value x < 10 = grind arith in
    let next : suc n ≡ 1 + n = omega arith in
    subst (λ k. AllDigits 10 (take k (x ∷ xs))) next (small, all)

-- the digits in front of a text
pub AllDigits-front : (xs : List ℕ) → AllDigits 10 (take (prefix_len is_ascii_digit xs) xs)
AllDigits-front [] = tt
AllDigits-front (x ∷ xs) = digits_run (is_ascii_digit x) x (prefix_len is_ascii_digit xs) xs refl (AllDigits-front xs)

-- a number followed by the digits in front of a text
pub front_more : (n d : ℕ) (xs : List ℕ) → is_ascii_digit d ≡ true → digits_value_after 10 n (front (d ∷ xs)) ≡ digits_value_after 10 (n * 10 + digit_value d) (front xs)
front_more n d xs is =
    let m = prefix_len is_ascii_digit xs in
    let next : suc m ≡ 1 + m = omega arith in
    subst (λ b. digits_value_after 10 n (take (cond b (1 + m) 0) (d ∷ xs)) ≡ digits_value_after 10 (n * 10 + digit_value d) (take m xs)) (sym is)
    (ap (λ k. digits_value_after 10 n (take k (d ∷ xs))) (sym next))

pub front_none : (n d : ℕ) (xs : List ℕ) → is_ascii_digit d ≡ false → digits_value_after 10 n (front (d ∷ xs)) ≡ n
front_none n d xs is = subst (λ b. digits_value_after 10 n (take (cond b (1 + prefix_len is_ascii_digit xs) 0) (d ∷ xs)) ≡ n) (sym is) refl

some_run : (b : Bool) (x n : ℕ) (xs : List ℕ) → 0 < cond b (1 + n) 0 → 0 < length (take (cond b (1 + n) 0) (x ∷ xs))
some_run false x n xs h = h
some_run true x n xs h =
    let next : suc n ≡ 1 + n = omega arith in
    let some : 0 < length (take (suc n) (x ∷ xs)) = omega arith in
    subst (λ k. 0 < length (take k (x ∷ xs))) next some

front_some : (xs : List ℕ) → 0 < prefix_len is_ascii_digit xs → 0 < length (front xs)
front_some [] h = h
front_some (x ∷ xs) h = some_run (is_ascii_digit x) x (prefix_len is_ascii_digit xs) xs h

-- the number that they write
pub front_number : (xs : List ℕ) (n : ℕ) → 0 < prefix_len is_ascii_digit xs → digits_value 10 (front xs) ≡ n → n < 2 ^ 64 → number_of (front xs) ≡ Some (unsigned n)
front_number xs n some is small = number_of-digits (front xs) (AllDigits-front xs) (front_some xs some) (subst (λ k. k < 2 ^ 64) (sym is) small) ∙ ap (λ m. Some (unsigned m)) is
