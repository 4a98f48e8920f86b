-- The slots in which vertices are, and tables with a place for each seat.
use Rattle.std.proofs.Common.{◌≡◌, ◌⊎◌, ℕ, zero, suc, List, [], ◌∷◌, ap, sym, refl, inl, inr, Some, None, is_some, set, true}
use Rattle.std.specs.Prelude.{Option}
use Rattle.std.specs.Option.{unwrap_or}
use Rattle.tg_lists.specs.Promise.Membership.{Contains}
use Rattle.tg_collect.specs.Promise.Stored.{Stored}
use Rattle.tg_collect.specs.Promise.Readings.{place, serial_at}
use Rattle.tg_vault.specs.Promise.World.{at_seat}

pub serial_is : (s : Stored) (id x : ℕ) → place s id ≡ Some x → serial_at s id ≡ x
serial_is s id x at = ap (λ o. unwrap_or o 0) at

pub seat_contains : (table : List (Option ℕ)) (seat x : ℕ) → at_seat table seat ≡ Some x → Contains table (Some x)
seat_contains [] seat x is = absurd (cc is)
seat_contains (o ∷ table) zero x is = inl (sym is)
seat_contains (o ∷ table) (suc seat) x is = inr (seat_contains table seat x is)

pub contains_seat : (table : List (Option ℕ)) (x : ℕ) → Contains table (Some x) → (seat : ℕ) × (at_seat table seat ≡ Some x)
contains_seat [] x h = absurd h
contains_seat (o ∷ table) x (inl is) = (0, sym is)
contains_seat (o ∷ table) x (inr h) = let later = contains_seat table x h in (suc later.0, later.1)

-- who is at a seat was put there, or was there
pub set_seat : (table : List (Option ℕ)) (seat k : ℕ) (o : Option ℕ) (y : ℕ) → at_seat (set table seat o) k ≡ Some y → ((k ≡ seat) × (o ≡ Some y)) ⊎ (at_seat table k ≡ Some y)
set_seat [] seat k o y is = inr is
set_seat (p ∷ table) zero zero o y is = inl (refl, is)
set_seat (p ∷ table) zero (suc k) o y is = inr is
set_seat (p ∷ table) (suc seat) zero o y is = inr is
set_seat (p ∷ table) (suc seat) (suc k) o y is = elim (set_seat table seat k o y is) [ inl new ↦ inl (ap suc new.0, new.1) | inr before ↦ inr before ]

-- nobody is at a place that was emptied
pub set_none : (table : List (Option ℕ)) (seat x : ℕ) → at_seat (set table seat None) seat ≡ Some x → ⊥
set_none [] seat x is = cc is
set_none (p ∷ table) zero x is = cc is
set_none (p ∷ table) (suc seat) x is = set_none table seat x is

-- a seat in use stays so, unless it is the one that is emptied
pub set_used : (table : List (Option ℕ)) (seat k : ℕ) (o : Option ℕ) → is_some (at_seat table k) ≡ true → (k ≡ seat → is_some o ≡ true) → is_some (at_seat (set table seat o) k) ≡ true
set_used [] seat k o used put = used
set_used (p ∷ table) zero zero o used put = put refl
set_used (p ∷ table) zero (suc k) o used put = used
set_used (p ∷ table) (suc seat) zero o used put = used
set_used (p ∷ table) (suc seat) (suc k) o used put = set_used table seat k o used (λ is. put (ap suc is))
