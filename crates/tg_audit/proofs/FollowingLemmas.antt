-- The logs of a seat, followed exchange by exchange along its entries.
use Rattle.std.proofs.Common.{◌≡◌, ℕ, zero, suc, ◌+◌, ◌≤◌, List, [], ◌∷◌, ◌++◌, length, drop, refl, sym, ap, ◌∙◌, subst, arith, nat_eq, true, false, slice_get, Some, append_assoc, length-append}
use Rattle.std.proofs.lemmas.Option.{none-some, same_Some}
use Rattle.std.proofs.lemmas.Grind.{common_steps}
use Rattle.std.proofs.lemmas.Bool.Decides.{nat_tests}
use Rattle.tg_audit.specs.declared.logs.Exchange.{Exchange}
use Rattle.tg_audit.specs.declared.logs.SeatLog.{SeatLog}
use Rattle.tg_audit.specs.declared.following.Position.{Position}
use Rattle.tg_audit.specs.Inner.Following.{Beside, joined_from, left_of}
use Rattle.tg_audit.specs.Promise.Settling.{DifferAt, joined_logs}

pub drop_some : {X : Type 0} (xs : List X) (k : ℕ) (x : X) → slice_get xs k ≡ Some x → drop k xs ≡ x ∷ drop (suc k) xs
drop_some [] k x at = absurd (none-some x at)
drop_some (y ∷ xs) zero x at = ap (λ z. z ∷ xs) (same_Some y x at)
drop_some (y ∷ xs) (suc k) x at = drop_some xs k x at

pub drop_past : {X : Type 0} (xs : List X) (k : ℕ) → length xs ≤ k → drop k xs ≡ []
drop_past xs k past = grind (arith, common_steps)

pub joined_from_start : (seat : ℕ) (logs : List SeatLog) → joined_from seat 0 logs ≡ joined_logs seat logs
joined_from_start seat [] = refl
joined_from_start seat (log ∷ logs) = refl

-- a log of the seat, from an index on
pub joined_from_same : (seat at : ℕ) (logs : List SeatLog) (n : ℕ) (log : SeatLog) → slice_get logs n ≡ Some log → log.seat ≡ seat →
    joined_from seat at (drop n logs) ≡ drop at log.exchanges.items ++ joined_from seat 0 (drop (n + 1) logs)
joined_from_same seat at logs n log is same =
    let test : nat_eq log.seat seat ≡ true = grind (arith, nat_tests) in
    let next : n + 1 ≡ suc n = omega arith in
    rw (joined_from_start seat (drop (n + 1) logs), drop_some logs n log is, test, next) refl

-- a log of another seat
pub joined_from_other : (seat at : ℕ) (logs : List SeatLog) (n : ℕ) (log : SeatLog) → slice_get logs n ≡ Some log → (log.seat ≡ seat → ⊥) →
    joined_from seat at (drop n logs) ≡ joined_from seat 0 (drop (n + 1) logs)
joined_from_other seat at logs n log is other =
    let test : nat_eq log.seat seat ≡ false = grind (arith, nat_tests) in
    let next : n + 1 ≡ suc n = omega arith in
    rw (joined_from_start seat (drop (n + 1) logs), drop_some logs n log is, test, next) refl

-- an exchange of the log that has further ones after it
pub joined_from_next : (seat at : ℕ) (logs : List SeatLog) (n : ℕ) (log : SeatLog) (x : Exchange) → slice_get logs n ≡ Some log → log.seat ≡ seat → slice_get log.exchanges.items at ≡ Some x →
    joined_from seat at (drop n logs) ≡ x ∷ joined_from seat (at + 1) (drop n logs)
joined_from_next seat at logs n log x is same here =
    let next : at + 1 ≡ suc at = omega arith in
    rw (joined_from_same seat at logs n log is same, joined_from_same seat (at + 1) logs n log is same, drop_some log.exchanges.items at x here, next) refl

-- a log of the seat without further exchanges
pub joined_from_past : (seat at : ℕ) (logs : List SeatLog) (n : ℕ) (log : SeatLog) → slice_get logs n ≡ Some log → log.seat ≡ seat → length log.exchanges.items ≤ at →
    joined_from seat at (drop n logs) ≡ joined_from seat 0 (drop (n + 1) logs)
joined_from_past seat at logs n log is same past =
    rw (joined_from_same seat at logs n log is same, drop_past log.exchanges.items at past) refl

-- lists that differ at once, after what is common
differ_behind : (common xs ys : List Exchange) (i : ℕ) → length common ≡ i → DifferAt xs ys 0 → DifferAt (common ++ xs) (common ++ ys) i
differ_behind [] xs ys i count differ = subst (DifferAt xs ys) count differ
differ_behind (c ∷ common) xs ys zero count differ = absurd (omega arith)
differ_behind (c ∷ common) xs ys (suc n) count differ =
    let inner : DifferAt (common ++ xs) (common ++ ys) n = differ_behind common xs ys n (omega arith) differ in
    (ap (λ l. c ∷ l) inner.0, inner.1)

differ_at : (entries logged common xs ys : List Exchange) (i : ℕ) → entries ≡ common ++ xs → logged ≡ common ++ ys → length common ≡ i → DifferAt xs ys 0 → DifferAt entries logged i
differ_at entries logged common xs ys i entered logs count differ = rw (entered, logs) (differ_behind common xs ys i count differ)

-- the next entry of a seat is its next exchange
pub beside_more : (seat : ℕ) (logs : List SeatLog) (entries rest : List Exchange) (p q : Position) (i : ℕ) (x y : Exchange) → Beside seat logs entries (x ∷ rest) p i → left_of seat logs p ≡ y ∷ left_of seat logs q → x ≡ y → Beside seat logs entries rest q (i + 1)
beside_more seat logs entries rest p q i x y b left same = record {
  common = b.common ++ x ∷ [];
  entered = b.entered ∙ sym (append_assoc b.common (x ∷ []) rest);
  logged = b.logged ∙ (ap (λ l. b.common ++ l) (left ∙ ap (λ z. z ∷ left_of seat logs q) (sym same)) ∙ sym (append_assoc b.common (x ∷ []) (left_of seat logs q)));
  count = simp length-append (omega (arith, b.count));
}

-- it is another, or there is none
pub apart_there : (seat : ℕ) (logs : List SeatLog) (entries rest more : List Exchange) (p : Position) (i : ℕ) (x y : Exchange) → Beside seat logs entries (x ∷ rest) p i → left_of seat logs p ≡ y ∷ more → (x ≡ y → ⊥) → DifferAt entries (joined_logs seat logs) i
apart_there seat logs entries rest more p i x y b left other =
    differ_at entries (joined_logs seat logs) b.common (x ∷ rest) (y ∷ more) i b.entered (b.logged ∙ ap (λ l. b.common ++ l) left) b.count (refl, λ same. other (same_Some x y same))

pub apart_entry : (seat : ℕ) (logs : List SeatLog) (entries rest : List Exchange) (p : Position) (i : ℕ) (x : Exchange) → Beside seat logs entries (x ∷ rest) p i → left_of seat logs p ≡ [] → DifferAt entries (joined_logs seat logs) i
apart_entry seat logs entries rest p i x b left =
    differ_at entries (joined_logs seat logs) b.common (x ∷ rest) [] i b.entered (b.logged ∙ ap (λ l. b.common ++ l) left) b.count (refl, λ same. none-some x (sym same))

-- there are no further entries, and a further exchange, or none
pub apart_log : (seat : ℕ) (logs : List SeatLog) (entries more : List Exchange) (p : Position) (i : ℕ) (y : Exchange) → Beside seat logs entries [] p i → left_of seat logs p ≡ y ∷ more → DifferAt entries (joined_logs seat logs) i
apart_log seat logs entries more p i y b left =
    differ_at entries (joined_logs seat logs) b.common [] (y ∷ more) i b.entered (b.logged ∙ ap (λ l. b.common ++ l) left) b.count (refl, λ same. none-some y same)
