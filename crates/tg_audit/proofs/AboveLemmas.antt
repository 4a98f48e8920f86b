-- The logs of seats that no entry has.
use Rattle.std.proofs.Common.{◌≡◌, ◌≢◌, ℕ, zero, suc, ◌<◌, ◌≤◌, List, [], ◌∷◌, ◌++◌, take, refl, sym, ap, ◌∙◌, arith, nat_eq, Bool, true, false, slice_get, Option, Some, None, if◌then◌else◌, append_assoc}
use Rattle.std.proofs.lemmas.Option.{none-some, same_Some}
use Rattle.std.proofs.lemmas.Bool.Decides.{nat_tests}
use Rattle.tg_rights.specs.declared.limits.TheConstants.{SEATS}
use Rattle.tg_audit.specs.declared.logs.Exchange.{Exchange}
use Rattle.tg_audit.specs.declared.logs.SeatLog.{SeatLog}
use Rattle.tg_audit.specs.Inner.Following.{IsLeastAbove}
use Rattle.tg_audit.specs.Promise.Settling.{joined_logs}

pub take_next : {X : Type 0} (xs : List X) (k : ℕ) (x : X) → slice_get xs k ≡ Some x → take (suc k) xs ≡ take k xs ++ x ∷ []
take_next [] k x at = absurd (none-some x at)
take_next (y ∷ xs) zero x at = ap (λ z. z ∷ []) (same_Some y x at)
take_next (y ∷ xs) (suc k) x at = ap (λ l. y ∷ l) (take_next xs k x at)

behind : (b : Bool) (xs ys zs more : List Exchange) → more ≡ ys ++ zs → (if b then xs ++ more else more) ≡ (if b then xs ++ ys else ys) ++ zs
behind true xs ys zs more e = ap (λ l. xs ++ l) e ∙ sym (append_assoc xs ys zs)
behind false xs ys zs more e = e

-- one more log
joined_same : (k : ℕ) (before : List SeatLog) (log : SeatLog) → log.seat ≡ k → joined_logs k (before ++ log ∷ []) ≡ joined_logs k before ++ (log.exchanges.items ++ [])
joined_same k [] log is = let test : nat_eq log.seat k ≡ true = grind (arith, nat_tests) in rw test refl
joined_same k (l ∷ before) log is = behind (nat_eq l.seat k) l.exchanges.items (joined_logs k before) (log.exchanges.items ++ []) (joined_logs k (before ++ log ∷ [])) (joined_same k before log is)

joined_other : (k : ℕ) (before : List SeatLog) (log : SeatLog) → log.seat ≢ k → joined_logs k (before ++ log ∷ []) ≡ joined_logs k before ++ []
joined_other k [] log other = let test : nat_eq log.seat k ≡ false = grind (arith, nat_tests) in rw test refl
joined_other k (l ∷ before) log other = behind (nat_eq l.seat k) l.exchanges.items (joined_logs k before) [] (joined_logs k (before ++ log ∷ [])) (joined_other k before log other)

append_end : {X : Type 0} (xs : List X) → xs ++ [] ≡ xs
append_end [] = refl
append_end (x ∷ xs) = ap (λ l. x ∷ l) (append_end xs)

front_empty : {X : Type 0} (xs ys : List X) → xs ++ ys ≡ [] → xs ≡ []
front_empty [] ys e = refl
front_empty (x ∷ xs) ys e = cc

back_empty : {X : Type 0} (xs ys : List X) → xs ++ ys ≡ [] → ys ≡ []
back_empty [] ys e = e
back_empty (x ∷ xs) ys e = cc

-- a log that changes no seat above
least_same : (before after : List SeatLog) (least : Option ℕ) → ((k : ℕ) → SEATS ≤ k → joined_logs k after ≡ joined_logs k before) → IsLeastAbove before least → IsLeastAbove after least
least_same before after None same is = λ k above. same k above ∙ is k above
least_same before after (Some seat) same is = (is.0, (λ e. is.1 (sym (same seat is.0) ∙ e)), λ k above lt. same k above ∙ is.2 k above lt)

pub least_low : (before : List SeatLog) (log : SeatLog) (least : Option ℕ) → log.seat < SEATS → IsLeastAbove before least → IsLeastAbove (before ++ log ∷ []) least
least_low before log least low is =
    least_same before (before ++ log ∷ []) least (λ k above. (let other : log.seat ≢ k = omega arith in joined_other k before log other ∙ append_end (joined_logs k before))) is

-- a log without an exchange
empty_kept : (k : ℕ) (before : List SeatLog) (log : SeatLog) → log.exchanges.items ≡ [] → joined_logs k (before ++ log ∷ []) ≡ joined_logs k before ++ []
empty_kept k [] log empty = kept (nat_eq log.seat k) log.exchanges.items empty where
  kept : (b : Bool) (xs : List Exchange) → xs ≡ [] → (if b then xs ++ [] else []) ≡ []
  kept true xs e = append_end xs ∙ e
  kept false xs e = refl
empty_kept k (l ∷ before) log empty = behind (nat_eq l.seat k) l.exchanges.items (joined_logs k before) [] (joined_logs k (before ++ log ∷ [])) (empty_kept k before log empty)

pub least_empty : (before : List SeatLog) (log : SeatLog) (least : Option ℕ) → log.exchanges.items ≡ [] → IsLeastAbove before least → IsLeastAbove (before ++ log ∷ []) least
least_empty before log least empty is = least_same before (before ++ log ∷ []) least (λ k above. empty_kept k before log empty ∙ append_end (joined_logs k before)) is

-- a log with an exchange, of a seat with none below it
pub least_new : (before : List SeatLog) (log : SeatLog) → SEATS ≤ log.seat → log.exchanges.items ≢ [] → ((k : ℕ) → SEATS ≤ k → k < log.seat → joined_logs k before ≡ []) → IsLeastAbove (before ++ log ∷ []) (Some log.seat)
least_new before log above some none = (
  above,
  (λ e. some (sym (append_end log.exchanges.items) ∙ back_empty (joined_logs log.seat before) (log.exchanges.items ++ []) (sym (joined_same log.seat before log refl) ∙ e))),
  λ k high lt. (let other : log.seat ≢ k = omega arith in joined_other k before log other ∙ (append_end (joined_logs k before) ∙ none k high lt)),
)

pub least_first : (before : List SeatLog) (log : SeatLog) → SEATS ≤ log.seat → log.exchanges.items ≢ [] → IsLeastAbove before None → IsLeastAbove (before ++ log ∷ []) (Some log.seat)
least_first before log above some is = least_new before log above some (λ k high lt. is k high)

pub least_lower : (before : List SeatLog) (log : SeatLog) (found : ℕ) → SEATS ≤ log.seat → log.exchanges.items ≢ [] → log.seat ≤ found → IsLeastAbove before (Some found) → IsLeastAbove (before ++ log ∷ []) (Some log.seat)
least_lower before log found above some le is = least_new before log above some (λ k high lt. is.2 k high (omega arith))

-- a log of a seat above the one found
pub least_stays : (before : List SeatLog) (log : SeatLog) (found : ℕ) → found < log.seat → IsLeastAbove before (Some found) → IsLeastAbove (before ++ log ∷ []) (Some found)
least_stays before log found lt is =
    let other : log.seat ≢ found = omega arith in (
      is.0,
      (λ e. is.1 (front_empty (joined_logs found before) [] (sym (joined_other found before log other) ∙ e))),
      λ k high below. (let apart : log.seat ≢ k = omega arith in joined_other k before log apart ∙ (append_end (joined_logs k before) ∙ is.2 k high below)),
    )
