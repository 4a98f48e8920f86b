-- If each seat agrees, the history has as many entries as the logs have exchanges.
use Rattle.std.proofs.Common.{◌≡◌, ℕ, zero, suc, ◌+◌, ◌<◌, ◌≤◌, List, [], ◌∷◌, ◌++◌, length, refl, sym, ap, ◌∙◌, arith, nat_eq, Bool, true, false, if◌then◌else◌, sum_by, length-append}
use Rattle.std.proofs.lemmas.Bool.Decides.{nat_tests}
use Rattle.std.proofs.lemmas.List.Sums.{sum_by-cons}
use Rattle.std.proofs.Math.Nat.{eq-or-lt_of_le}
use Rattle.std.proofs.Math.Logic.{inl, inr}
use Rattle.tg_graph.specs.Promise.Protection.{Protection}
use Rattle.tg_graph.specs.Promise.Rules.{next_graph}
use Rattle.tg_vault.specs.declared.entry.Entry.{Entry}
use Rattle.tg_vault.specs.Promise.Contents.{Contents}
use Rattle.tg_audit.specs.declared.logs.Exchange.{Exchange}
use Rattle.tg_audit.specs.declared.logs.SeatLog.{SeatLog}
use Rattle.tg_audit.specs.Promise.Settling.{Agrees, exchange_at, exchanges_of, joined_logs}

abbrev sum_below : (ℕ → ℕ) → ℕ → ℕ
sum_below f zero = 0
sum_below f (suc n) = sum_below f n + f n

abbrev one_at : ℕ → ℕ → ℕ → ℕ
one_at s a k = (if nat_eq s k then a else 0)

sum_zero : (n : ℕ) → sum_below (λ _. 0) n ≡ 0
sum_zero zero = refl
sum_zero (suc n) = omega (arith, sum_zero n)

sum_ext : (f g : ℕ → ℕ) (n : ℕ) → ((k : ℕ) → f k ≡ g k) → sum_below f n ≡ sum_below g n
sum_ext f g zero same = refl
sum_ext f g (suc n) same = omega (arith, sum_ext f g n same, same n)

sum_add : (f g : ℕ → ℕ) (n : ℕ) → sum_below (λ k. f k + g k) n ≡ sum_below f n + sum_below g n
sum_add f g zero = refl
sum_add f g (suc n) = omega (arith, sum_add f g n)

sum_none : (s a n : ℕ) → n ≤ s → sum_below (one_at s a) n ≡ 0
sum_none s a zero le = refl
sum_none s a (suc n) le =
    let test : nat_eq s n ≡ false = grind (arith, nat_tests) in
    let here : one_at s a n ≡ 0 = rw test refl in
    omega (arith, sum_none s a n (omega arith), here)

sum_one : (s a n : ℕ) → s < n → sum_below (one_at s a) n ≡ a
sum_one s a zero lt = absurd (omega arith)
sum_one s a (suc n) lt =
    let within : s ≤ n = omega arith in
    elim (eq-or-lt_of_le within) as (λ _. sum_below (one_at s a) (suc n) ≡ a) [
      | inl same ↦
          let test : nat_eq s n ≡ true = grind (arith, nat_tests) in
          let here : one_at s a n ≡ a = rw test refl in
          omega (arith, sum_none s a n (omega arith), here)
      | inr below ↦
          let test : nat_eq s n ≡ false = grind (arith, nat_tests) in
          let here : one_at s a n ≡ 0 = rw test refl in
          omega (arith, sum_one s a n below, here)
    ]

one_more : (b : Bool) (x : Exchange) (xs : List Exchange) → length (if b then x ∷ xs else xs) ≡ (if b then 1 else 0) + length xs
one_more true x xs = omega arith
one_more false x xs = omega arith

some_more : (b : Bool) (ys xs : List Exchange) → length (if b then ys ++ xs else xs) ≡ (if b then length ys else 0) + length xs
some_more true ys xs = length-append ys xs
some_more false ys xs = omega arith

-- numbers above each seat of some entries, and of some logs
abbrev past_entries : List Entry → ℕ
past_entries [] = 0
past_entries (e ∷ es) = e.seat + 1 + past_entries es

abbrev past_logs : List SeatLog → ℕ
past_logs [] = 0
past_logs (log ∷ logs) = log.seat + 1 + past_logs logs

entries_count : (n : ℕ) (G : Protection) (es : List Entry) → past_entries es ≤ n → sum_below (λ k. length (exchanges_of k G es)) n ≡ length es
entries_count n G [] past = sum_zero n
entries_count n G (e ∷ es) past =
    let H = next_graph G e.actor e.command e.outcome in
    let split = sum_ext (λ k. length (exchanges_of k G (e ∷ es))) (λ k. one_at e.seat 1 k + length (exchanges_of k H es)) n (λ k. one_more (nat_eq e.seat k) (exchange_at G e) (exchanges_of k H es)) in
    let parts = sum_add (one_at e.seat 1) (λ k. length (exchanges_of k H es)) n in
    let one = sum_one e.seat 1 n (omega arith) in
    let rest = entries_count n H es (omega arith) in
    omega (arith, split, parts, one, rest)

logs_count : (n : ℕ) (logs : List SeatLog) → past_logs logs ≤ n → sum_below (λ k. length (joined_logs k logs)) n ≡ sum_by (λ l. length l.exchanges.items) logs
logs_count n [] past = sum_zero n
logs_count n (log ∷ logs) past =
    let long = length log.exchanges.items in
    let split = sum_ext (λ k. length (joined_logs k (log ∷ logs))) (λ k. one_at log.seat long k + length (joined_logs k logs)) n (λ k. some_more (nat_eq log.seat k) log.exchanges.items (joined_logs k logs)) in
    let parts = sum_add (one_at log.seat long) (λ k. length (joined_logs k logs)) n in
    let one = sum_one log.seat long n (omega arith) in
    let rest = logs_count n logs (omega arith) in
    let whole : sum_by (λ (l : SeatLog). length l.exchanges.items) (log ∷ logs) ≡ long + sum_by (λ (l : SeatLog). length l.exchanges.items) logs = sum_by-cons (λ (l : SeatLog). length l.exchanges.items) log logs in
    omega (arith, split, parts, one, rest, whole)

pub agreed_counts : (v : Contents) (logs : List SeatLog) → ((seat : ℕ) → Agrees v logs seat) → length v.history ≡ sum_by (λ l. length l.exchanges.items) logs
agreed_counts v logs agree =
    let n = past_entries v.history + past_logs logs in
    sym (entries_count n v.opening v.history (omega arith))
    ∙ (sum_ext (λ k. length (exchanges_of k v.opening v.history)) (λ k. length (joined_logs k logs)) n (λ k. ap length (agree k)) ∙ logs_count n logs (omega arith))
