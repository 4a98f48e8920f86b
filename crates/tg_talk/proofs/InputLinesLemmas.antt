-- The first line feed of some bytes, and the first line of a text.
use Rattle.std.proofs.Common.{◌≡◌, ℕ, zero, suc, ◌+◌, ◌-◌, ◌<◌, ◌≤◌, nat_lt, List, [], ◌∷◌, ◌++◌, length, take, drop, get_or, Option, Some, None, IfSome, IfNone, Bool, true, false, ◌||◌, refl, sym, ap, ◌∙◌, subst, arith, add-one, take-append-drop, length-drop, take_all}
use Rattle.std.specs.List.{onto_first}
use Rattle.std.proofs.lemmas.Bool.{eqb-true, false_from_ne_true, or_parts, or_right}
use Rattle.std.proofs.lemmas.List.{drop-drop, drop-take, take-take, get_or-drop, length-take-le}
use Rattle.std.proofs.lemmas.List.Folds.{list_any-append}
use Rattle.memchr.specs.Find.{IsFirstByte, IsLastByte, is_byte}
use Rattle.tg_talk.specs.Promise.Finding.{is_decided}
use Rattle.tg_talk.specs.Promise.InputLines.{is_newline, has_newline, lines_of, IsFirstNewline}
use Rattle.tg_talk.specs.Inner.InputLines.{EndsLines}

-- ---- the first line feed

-- no line feed at a place below n
pub none_below : (xs : List ℕ) (n : ℕ) → ((k : ℕ) → k < n → ¬ (is_newline (get_or xs k 0) ≡ true)) → has_newline (take n xs) ≡ false
none_below xs zero h = refl
none_below [] (suc n) h = refl
none_below (x ∷ xs) (suc n) h = rw (false_from_ne_true (is_newline x) (h 0 (omega arith))) (none_below xs n (λ k below. h (suc k) (omega arith)))

pub newline_at : (xs : List ℕ) (n : ℕ) → n < length xs → is_newline (get_or xs n 0) ≡ true → xs ≡ take n xs ++ 10 ∷ drop (n + 1) xs
newline_at [] n h is = absurd (omega arith)
newline_at (x ∷ xs) zero h is = ap (λ y. y ∷ xs) (eqb-true x 10 is)
newline_at (x ∷ xs) (suc n) h is = ap (λ l. x ∷ l) (newline_at xs n (omega arith) is) ∙ rw (add-one, add-one) refl

pub is_first : (xs : List ℕ) (n : ℕ) → n < length xs → ((k : ℕ) → k < n → ¬ (is_newline (get_or xs k 0) ≡ true)) → is_newline (get_or xs n 0) ≡ true → IsFirstNewline xs n
is_first xs n within before here = record { within = within; none = none_below xs n before; split = newline_at xs n within here }

pub none_all : (xs : List ℕ) → ((k : ℕ) → k < length xs → ¬ (is_newline (get_or xs k 0) ≡ true)) → has_newline xs ≡ false
none_all xs h = let all = none_below xs (length xs) h in rw (take_all (length xs) xs (omega arith)) at all

pub first_of : (xs : List ℕ) (r : Option ℕ) → IsFirstByte (is_byte 10) xs r → IfSome r (IsFirstNewline xs)
first_of xs None h = tt
first_of xs (Some n) h = is_first xs n h.0.high (λ k below. h.0.before k (omega arith) below) h.1

pub none_of : (xs : List ℕ) (r : Option ℕ) → IsFirstByte (is_byte 10) xs r → IfNone r (has_newline xs ≡ false)
none_of xs None h = none_all xs (λ k below. h k (omega arith) below)
none_of xs (Some n) h = tt

pub none_in_front : (xs : List ℕ) (n : ℕ) → has_newline xs ≡ false → has_newline (take n xs) ≡ false
none_in_front xs n h =
    let parts : (has_newline (take n xs) || has_newline (drop n xs)) ≡ false = sym (list_any-append is_newline (take n xs) (drop n xs)) ∙ ap has_newline (take-append-drop n xs) ∙ h in
    (or_parts _ _ parts).0

pub none_in_shorter : (xs : List ℕ) (m n : ℕ) → m ≤ n → has_newline (take n xs) ≡ false → has_newline (take m xs) ≡ false
none_in_shorter xs m n le h = rw (take-take m n xs le) at (none_in_front (take n xs) m h)

-- ---- the last line feed

or_false : (a : Bool) → (a || false) ≡ a
or_false true = refl
or_false false = refl

none_dropped : (k : ℕ) (xs : List ℕ) → has_newline xs ≡ false → has_newline (drop k xs) ≡ false
none_dropped k xs h =
    let parts : (has_newline (take k xs) || has_newline (drop k xs)) ≡ false = sym (list_any-append is_newline (take k xs) (drop k xs)) ∙ ap has_newline (take-append-drop k xs) ∙ h in
    (or_parts _ _ parts).1

-- what goes before `s` is taken away
pub ends_moved : (xs : List ℕ) (s n : ℕ) → EndsLines xs n → EndsLines (drop s xs) (n - s)
ends_moved xs s n h k =
    let same : nat_lt (s + k) n ≡ nat_lt k (n - s) = grind arith in
    ap has_newline (drop-drop k s xs) ∙ h (s + k) ∙ same

-- bytes without a line feed follow
ends_before : (xs ys : List ℕ) (n : ℕ) → has_newline ys ≡ false → EndsLines xs n → EndsLines (xs ++ ys) n
ends_before [] ys n none h k = none_dropped k ys none ∙ sym (none_dropped k [] refl) ∙ h k
ends_before (x ∷ xs) ys n none h zero = list_any-append is_newline (x ∷ xs) ys ∙ rw none (or_false _) ∙ h 0
ends_before (x ∷ xs) ys n none h (suc k) =
    let same : nat_lt k (n - 1) ≡ nat_lt (suc k) n = grind arith in
    ends_before xs ys (n - 1) none (ends_moved (x ∷ xs) 1 n h) k ∙ same

-- a line feed, and none after it
ends_after : (xs ys : List ℕ) → has_newline ys ≡ false → EndsLines (xs ++ 10 ∷ ys) (length xs + 1)
ends_after [] ys none zero = refl
ends_after [] ys none (suc k) =
    let over : false ≡ nat_lt (suc k) 1 = grind arith in
    none_dropped k ys none ∙ over
ends_after (x ∷ xs) ys none zero =
    let first : has_newline (xs ++ 10 ∷ ys) ≡ true = ends_after xs ys none 0 ∙ grind arith in
    let some : true ≡ nat_lt 0 (suc (length xs) + 1) = grind arith in
    or_right (is_newline x) _ first ∙ some
ends_after (x ∷ xs) ys none (suc k) =
    let same : nat_lt k (length xs + 1) ≡ nat_lt (suc k) (suc (length xs) + 1) = grind arith in
    ends_after xs ys none k ∙ same

none_from : (xs : List ℕ) (n : ℕ) → ((k : ℕ) → n ≤ k → k < length xs → ¬ (is_newline (get_or xs k 0) ≡ true)) → has_newline (drop n xs) ≡ false
none_from xs n h =
    none_all (drop n xs) (λ k below is. h (n + k) (omega arith) (omega (arith, length-drop n xs)) (ap is_newline (sym (get_or-drop n xs k 0)) ∙ is))

-- where the last line feed of what follows `from` is
pub ends_found : (xs : List ℕ) (from last : ℕ) → IsLastByte (is_byte 10) (drop from xs) (Some last) → EndsLines xs (from + last + 1)
ends_found xs from last h =
    let m = from + last in
    let within : m < length xs = omega (arith, h.0.high, length-drop from xs) in
    let split = newline_at xs m within (ap is_newline (sym (get_or-drop from xs last 0)) ∙ h.1) in
    let next : from + (last + 1) ≡ m + 1 = omega arith in
    let same : drop (last + 1) (drop from xs) ≡ drop (m + 1) xs = drop-drop (last + 1) from xs ∙ ap (λ n. drop n xs) next in
    let rest : has_newline (drop (m + 1) xs) ≡ false = ap has_newline (sym same) ∙ none_from (drop from xs) (last + 1) (λ k low below. h.0.after k low below) in
    subst (λ l. EndsLines l (m + 1)) (sym split) (subst (λ n. EndsLines (take m xs ++ 10 ∷ drop (m + 1) xs) (n + 1)) (length-take-le m xs (omega arith)) (ends_after (take m xs) (drop (m + 1) xs) rest))

-- nothing that follows `from` is a line feed
pub ends_known : (xs : List ℕ) (from n : ℕ) → EndsLines (take from xs) n → IsLastByte (is_byte 10) (drop from xs) None → EndsLines xs n
ends_known xs from n known h =
    subst (λ l. EndsLines l n) (take-append-drop from xs) (ends_before (take from xs) (drop from xs) n (none_all (drop from xs) (λ k below. h k (omega arith) below)) known)

between : (items : List ℕ) (start end : ℕ) → start ≤ end → drop start (take end items) ≡ take (end - start) (drop start items)
between items start end order =
    let all : end ≡ start + (end - start) = omega arith in
    ap (λ n. drop start (take n items)) all ∙ drop-take start (end - start) items

-- the bytes from `start` to `end` are moved to the front
pub ends_moved_front : (items moved : List ℕ) (start end n : ℕ) → start ≤ end → EndsLines (take end items) n → take (end - start) moved ≡ take (end - start) (drop start items) → EndsLines (take (end - start) moved) (n - start)
ends_moved_front items moved start end n order ends front = subst (λ l. EndsLines l (n - start)) (between items start end order ∙ sym front) (ends_moved (take end items) start n ends)

-- whether it is known what comes at `n` places after `start`
pub decided_at : (items : List ℕ) (start end lines n : ℕ) → start ≤ end → end ≤ length items → EndsLines (take end items) lines
    → is_decided (drop n (take (end - start) (drop start items))) ≡ (nat_lt (start + n) lines || nat_lt 16384 (end - (start + n)))
decided_at items start end lines n order within ends =
    let front = take end items in
    let rest : drop n (take (end - start) (drop start items)) ≡ drop (start + n) front = ap (drop n) (sym (between items start end order)) ∙ drop-drop n start front in
    let long : length (drop (start + n) front) ≡ end - (start + n) = length-drop (start + n) front ∙ ap (λ m. m - (start + n)) (length-take-le end items within) in
    ap is_decided rest ∙ ap (λ b. b || nat_lt 16384 (length (drop (start + n) front))) (ends (start + n)) ∙ ap (λ m. nat_lt (start + n) lines || nat_lt 16384 m) long

-- ---- the first line

-- a line and what follows it
pub lines_of-line : (line rest : List ℕ) → has_newline line ≡ false → lines_of (line ++ 10 ∷ rest) ≡ line ∷ lines_of rest
unfolding lines_of
lines_of-line [] rest h = refl
lines_of-line (b ∷ bs) rest h = rw ((or_parts (is_newline b) _ h).0, lines_of-line bs rest (or_parts (is_newline b) _ h).1) refl

-- the last line
pub lines_of-last : (line : List ℕ) → has_newline line ≡ false → 0 < length line → lines_of line ≡ line ∷ []
unfolding lines_of
lines_of-last [] h some = absurd (omega arith)
lines_of-last (b ∷ []) h some = rw ((or_parts (is_newline b) _ h).0) refl
lines_of-last (b ∷ c ∷ bs) h some = rw ((or_parts (is_newline b) _ h).0, lines_of-last (c ∷ bs) (or_parts (is_newline b) _ h).1 (omega arith)) refl

pub record Longer (xs : List ℕ) (n : ℕ) : Type 0 where
  pub line : List ℕ
  pub others : List (List ℕ)
  pub split : lines_of xs ≡ line ∷ others
  pub long : n < length line

onto_longer : (b n : ℕ) (xs : List ℕ) → is_newline b ≡ false → Longer xs n → Longer (b ∷ xs) (suc n)
unfolding lines_of
onto_longer b n xs h l = record { line = b ∷ l.line; others = l.others; split = rw (h, l.split) refl; long = omega (arith, l.long) }

onto_any : (b : ℕ) (ls : List (List ℕ)) → (line : List ℕ) × (others : List (List ℕ)) × (onto_first b ls ≡ line ∷ others) × (0 < length line)
onto_any b [] = (b ∷ [], [], refl, omega arith)
onto_any b (l ∷ ls) = (b ∷ l, ls, refl, omega arith)

-- a line that goes on past a front with no line feed
pub lines_of-long : (n : ℕ) (xs rest : List ℕ) → n < length xs → has_newline (take (suc n) xs) ≡ false → Longer (xs ++ rest) n
unfolding lines_of
lines_of-long n [] rest h none = absurd (omega arith)
lines_of-long zero (b ∷ bs) rest h none =
    let (line, others, split, some) = onto_any b (lines_of (bs ++ rest)) in
    record { line = line; others = others; split = rw ((or_parts (is_newline b) false none).0) split; long = some }
lines_of-long (suc n) (b ∷ bs) rest h none =
    onto_longer b n (bs ++ rest) (or_parts (is_newline b) _ none).0 (lines_of-long n bs rest (omega arith) (or_parts (is_newline b) _ none).1)
