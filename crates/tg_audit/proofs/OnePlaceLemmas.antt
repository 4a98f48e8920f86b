-- Logs first differ from a history at exactly one place, or at none.
use Rattle.std.proofs.Common.{◌≡◌, ℕ, zero, suc, ◌+◌, ◌<◌, ◌≤◌, List, [], ◌∷◌, take, refl, sym, ap, ◌∙◌, subst, arith, nat_eq, false, slice_get, Option, Some, None}
use Rattle.std.proofs.lemmas.Option.{none-some, same_Some}
use Rattle.std.proofs.lemmas.Bool.{cases_eq, cases_lt}
use Rattle.std.proofs.lemmas.Bool.Decides.{nat_tests}
use Rattle.std.proofs.Math.Nat.{eq-or-lt_of_le}
use Rattle.std.proofs.Math.Logic.{◌⊎◌, inl, inr}
use base.Stored.{Gv, gnil, gnum, gcons, num}
use Rattle.tg_graph.specs.Promise.Protection.{Protection}
use Rattle.tg_graph.specs.Promise.Rules.{next_graph}
use Rattle.tg_vault.specs.declared.entry.Entry.{Entry}
use Rattle.tg_vault.specs.Promise.Contents.{Contents}
use Rattle.tg_audit.specs.contracts.logs.Exchange as exchange
use Rattle.tg_audit.specs.declared.logs.Exchange.{Exchange}
use Rattle.tg_audit.specs.declared.logs.SeatLog.{SeatLog}
use Rattle.tg_audit.specs.Promise.Settling.{Agrees, DifferAt, IsFirstDifference, IsPlace, exchanges_of, joined_logs}

front_at : {X : Type 0} (xs : List X) (i j : ℕ) → i < j → slice_get (take j xs) i ≡ slice_get xs i
front_at [] i zero lt = absurd (omega arith)
front_at [] zero (suc j) lt = refl
front_at [] (suc i) (suc j) lt = refl
front_at (x ∷ xs) i zero lt = absurd (omega arith)
front_at (x ∷ xs) zero (suc j) lt = refl
front_at (x ∷ xs) (suc i) (suc j) lt = front_at xs i j (omega arith)

same_front : (xs ys : List Exchange) (i j : ℕ) → i < j → take j xs ≡ take j ys → slice_get xs i ≡ slice_get ys i
same_front xs ys i j lt same = sym (front_at xs i j lt) ∙ (ap (λ l. slice_get l i) same ∙ front_at ys i j lt)

-- lists differ first at one index, and equal ones at none
differ_once : (xs ys : List Exchange) (i j : ℕ) → DifferAt xs ys i → DifferAt xs ys j → i ≡ j
differ_once xs ys i j a b = elim (cases_lt i j) as (λ _. i ≡ j) [
  | inl lt ↦ absurd (a.1 (same_front xs ys i j lt b.0))
  | inr le ↦ elim (eq-or-lt_of_le le) as (λ _. i ≡ j) [ inl same ↦ sym same | inr lt ↦ absurd (b.1 (same_front xs ys j i lt a.0)) ]
]

differ_never : (xs ys : List Exchange) (i : ℕ) → xs ≡ ys → DifferAt xs ys i → ⊥
differ_never xs ys i same differ = differ.1 (ap (λ l. slice_get l i) same)

seat_once : (v : Contents) (logs : List SeatLog) (seat other i j : ℕ) → IsFirstDifference v logs seat i → IsFirstDifference v logs other j → seat ≡ other
seat_once v logs seat other i j a b = elim (cases_lt seat other) as (λ _. seat ≡ other) [
  | inl lt ↦ absurd (differ_never (exchanges_of seat v.opening v.history) (joined_logs seat logs) i (b.before seat lt) a.here)
  | inr le ↦ elim (eq-or-lt_of_le le) as (λ _. seat ≡ other) [
    | inl same ↦ sym same
    | inr lt ↦ absurd (differ_never (exchanges_of other v.opening v.history) (joined_logs other logs) j (a.before other lt) b.here)
  ]
]

pub place_once : (v : Contents) (logs : List SeatLog) (p q : Option (ℕ × ℕ)) → IsPlace v logs p → IsPlace v logs q → q ≡ p
place_once v logs None None a b = refl
place_once v logs None (Some q) a b = absurd (differ_never (exchanges_of q.0 v.opening v.history) (joined_logs q.0 logs) q.1 (a q.0) b.here)
place_once v logs (Some p) None a b = absurd (differ_never (exchanges_of p.0 v.opening v.history) (joined_logs p.0 logs) p.1 (b p.0) a.here)
place_once v logs (Some p) (Some q) a b =
    let seat : q.0 ≡ p.0 = seat_once v logs q.0 p.0 q.1 p.1 b a in
    let D : ℕ → Type 0 = λ k. DifferAt (exchanges_of k v.opening v.history) (joined_logs k logs) q.1 in
    let index : q.1 ≡ p.1 = differ_once (exchanges_of p.0 v.opening v.history) (joined_logs p.0 logs) q.1 p.1 (subst D seat b.here) a.here in
    λ i. Some (seat i, index i)

-- exchanges can be told apart, as all values that a proof stores
code_or : (a b : Gv) → (a ≡ b) ⊎ (a ≡ b → ⊥)
code_or gnil gnil = inl refl
code_or gnil (gnum n) = inr (λ (e : gnil ≡ gnum n). cc)
code_or gnil (gcons c d) = inr (λ (e : gnil ≡ gcons c d). cc)
code_or (gnum m) gnil = inr (λ (e : gnum m ≡ gnil). cc)
code_or (gnum m) (gnum n) = elim (cases_eq m n) as (λ _. (gnum m ≡ gnum n) ⊎ (gnum m ≡ gnum n → ⊥)) [ inl same ↦ inl (ap gnum same) | inr other ↦ inr (λ e. other (ap num e)) ]
code_or (gnum m) (gcons c d) = inr (λ (e : gnum m ≡ gcons c d). cc)
code_or (gcons a b) gnil = inr (λ (e : gcons a b ≡ gnil). cc)
code_or (gcons a b) (gnum n) = inr (λ (e : gcons a b ≡ gnum n). cc)
code_or (gcons a b) (gcons c d) = elim (code_or a c) as (λ _. (gcons a b ≡ gcons c d) ⊎ (gcons a b ≡ gcons c d → ⊥)) [
  | inl first ↦ elim (code_or b d) as (λ _. (gcons a b ≡ gcons c d) ⊎ (gcons a b ≡ gcons c d → ⊥)) [
    | inl second ↦ inl (λ i. gcons (first i) (second i))
    | inr other ↦ inr (λ (e : gcons a b ≡ gcons c d). other (cc))
  ]
  | inr other ↦ inr (λ (e : gcons a b ≡ gcons c d). other (cc))
]

exchange_or : (x y : Exchange) → (x ≡ y) ⊎ (x ≡ y → ⊥)
exchange_or x y = elim (code_or (exchange.the_row.coded.code x) (exchange.the_row.coded.code y)) as (λ _. (x ≡ y) ⊎ (x ≡ y → ⊥)) [
  | inl same ↦ inl (exchange.the_row.coded.inj x y same)
  | inr other ↦ inr (λ e. other (ap exchange.the_row.coded.code e))
]

differ_or : (xs ys : List Exchange) → (xs ≡ ys) ⊎ ((i : ℕ) × DifferAt xs ys i)
differ_or [] [] = inl refl
differ_or [] (y ∷ ys) = inr (0, (refl, λ same. none-some y same))
differ_or (x ∷ xs) [] = inr (0, (refl, λ same. none-some x (sym same)))
differ_or (x ∷ xs) (y ∷ ys) = elim (exchange_or x y) as (λ _. (x ∷ xs ≡ y ∷ ys) ⊎ ((i : ℕ) × DifferAt (x ∷ xs) (y ∷ ys) i)) [
  | inl same ↦ elim (differ_or xs ys) as (λ _. (x ∷ xs ≡ y ∷ ys) ⊎ ((i : ℕ) × DifferAt (x ∷ xs) (y ∷ ys) i)) [
    | inl rest ↦ inl (λ i. same i ∷ rest i)
    | inr differ ↦ inr (suc differ.0, ((λ i. same i ∷ differ.1.0 i), differ.1.1))
  ]
  | inr other ↦ inr (0, (refl, λ same. other (same_Some x y same)))
]

below_next : (P : ℕ → Type 0) (n : ℕ) → ((k : ℕ) → k < n → P k) → P n → (k : ℕ) → k < suc n → P k
below_next P n all here k lt =
    let le : k ≤ n = omega arith in
    elim (eq-or-lt_of_le le) as (λ _. P k) [ inl same ↦ subst P (sym same) here | inr below ↦ all k below ]

-- the seats below a number agree, or one of them is the first that does not
all_or : (v : Contents) (logs : List SeatLog) (n : ℕ) → ((k : ℕ) → k < n → Agrees v logs k) ⊎ ((p : ℕ × ℕ) × IsFirstDifference v logs p.0 p.1)
all_or v logs zero = inl (λ k lt. absurd (omega arith))
all_or v logs (suc n) = elim (all_or v logs n) as (λ _. ((k : ℕ) → k < suc n → Agrees v logs k) ⊎ ((p : ℕ × ℕ) × IsFirstDifference v logs p.0 p.1)) [
  | inl below ↦ elim (differ_or (exchanges_of n v.opening v.history) (joined_logs n logs)) as (λ _. ((k : ℕ) → k < suc n → Agrees v logs k) ⊎ ((p : ℕ × ℕ) × IsFirstDifference v logs p.0 p.1)) [
    | inl same ↦ inl (below_next (Agrees v logs) n below same)
    | inr differ ↦ inr ((n, differ.0), record { before = below; here = differ.1 })
  ]
  | inr found ↦ inr found
]

-- from some number on no seat has an entry, nor an exchange
entries_end : (es : List Entry) → (n : ℕ) × ((seat : ℕ) → n ≤ seat → (G : Protection) → exchanges_of seat G es ≡ [])
entries_end [] = (0, λ seat le G. refl)
entries_end (e ∷ es) = (
  e.seat + 1 + (entries_end es).0,
  λ seat le G.
      (let below : e.seat < seat = omega arith in
      let test : nat_eq e.seat seat ≡ false = grind (arith, nat_tests) in
      let rest = (entries_end es).1 seat (omega arith) (next_graph G e.actor e.command e.outcome) in
      rw test rest),
)

logs_end : (logs : List SeatLog) → (n : ℕ) × ((seat : ℕ) → n ≤ seat → joined_logs seat logs ≡ [])
logs_end [] = (0, λ seat le. refl)
logs_end (log ∷ logs) = (
  log.seat + 1 + (logs_end logs).0,
  λ seat le.
      (let below : log.seat < seat = omega arith in
      let test : nat_eq log.seat seat ≡ false = grind (arith, nat_tests) in
      let rest = (logs_end logs).1 seat (omega arith) in
      rw test rest),
)

pub some_place : (v : Contents) (logs : List SeatLog) → (p : Option (ℕ × ℕ)) × IsPlace v logs p
some_place v logs =
    let m = entries_end v.history in
    let n = logs_end logs in
    elim (all_or v logs (m.0 + n.0)) as (λ _. (p : Option (ℕ × ℕ)) × IsPlace v logs p) [
      | inl below ↦ (
        None,
        λ seat. elim (cases_lt seat (m.0 + n.0)) as (λ _. Agrees v logs seat) [
          | inl lt ↦ below seat lt
          | inr le ↦ m.1 seat (omega arith) v.opening ∙ sym (n.1 seat (omega arith))
        ],
      )
      | inr found ↦ (Some found.0, found.1)
    ]
