-- How a connection begins: its first eight bytes tell.
use Rattle.std.proofs.Common.{◌≡◌, ◌≤◌, ◌+◌, ◌-◌, ◌||◌, ◌++◌, ◌∙◌, ℕ, List, [], ◌∷◌, take, length, min, nat_eq, length-take-le, take-take, take_at, refl, sym, ap, arith}
use Rattle.std.proofs.Math.Seq.{take-append-add}
use Rattle.std.proofs.lemmas.List.{take_min}
use Rattle.std.specs.List.{list_any, starts_with}
use Rattle.std.specs.Cmp.Lexicographic.{pointwise}
use Rattle.tg_serve.specs.Inner.Beginning.{begins_otherwise, other_protocols}

-- each of these starts has at most n bytes
AreShort : ℕ → List (List ℕ) → Type 0
AreShort n [] = Unit {0}
AreShort n (start ∷ starts) = (length start ≤ n) × AreShort n starts

begins_short : (n : ℕ) (xs : List ℕ) (starts : List (List ℕ)) → AreShort n starts
    → list_any (λ start. starts_with nat_eq (take n xs) start) starts ≡ list_any (λ start. starts_with nat_eq xs start) starts
unfolding AreShort
begins_short n xs [] short = refl
begins_short n xs (start ∷ starts) short =
    ap (λ l. pointwise nat_eq start l || list_any (λ s. starts_with nat_eq (take n xs) s) starts) (take-take (length start) n xs short.0)
    ∙ ap (λ b. pointwise nat_eq start (take (length start) xs) || b) (begins_short n xs starts short.1)

pub begins_by_eight : (xs : List ℕ) → begins_otherwise (take 8 xs) ≡ begins_otherwise xs
unfolding AreShort
begins_by_eight xs = begins_short 8 xs other_protocols (
  omega arith,
  (
    omega arith,
    (
      omega arith,
      (
        omega arith,
        (
          omega arith,
          (
            omega arith,
            (
              omega arith,
              (omega arith, (omega arith, (omega arith, (omega arith, (omega arith, (omega arith, tt)))))),
            ),
          ),
        ),
      ),
    ),
  ),
)

-- bytes that are put behind others, as many as there is room for, and what stands behind them
put : (before more rest : List ℕ) (n taken : ℕ) → taken ≡ min (length more) n
    → take (length before + taken) (before ++ (take taken more ++ rest)) ≡ take (length before + n) (before ++ more)
put before more rest n taken is =
    let whole = length-take-le taken more (omega (arith, is)) in
    take-append-add before (take taken more ++ rest) taken ∙ ap (λ l. before ++ l) (take_at (take taken more) rest taken whole)
    ∙ ap (λ l. before ++ l) (ap (λ k. take k more) {y = min n (length more)} (omega (arith, is)) ∙ take_min n more)
    ∙ sym (take-append-add before more n)

pub put_at : (bytes more rest : List ℕ) (count taken : ℕ) → count ≤ length bytes → count ≤ 8 → taken ≡ min (length more) (8 - count)
    → take (count + taken) (take count bytes ++ (take taken more ++ rest)) ≡ take 8 (take count bytes ++ more)
put_at bytes more rest count taken within few is =
    let long = length-take-le count bytes within in
    ap (λ k. take k (take count bytes ++ (take taken more ++ rest))) {y = length (take count bytes) + taken} (omega (arith, long))
    ∙ put (take count bytes) more rest (8 - count) taken is
    ∙ ap (λ k. take k (take count bytes ++ more)) {y = 8} (omega (arith, long))

-- nothing has room behind eight bytes
pub full_stays : (bytes more : List ℕ) (count : ℕ) → count ≤ length bytes → count ≡ 8 → take count bytes ≡ take 8 (take count bytes ++ more)
full_stays bytes more count within full = sym (take_at (take count bytes) more 8 (omega (arith, length-take-le count bytes within)))
