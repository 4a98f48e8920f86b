-- who acts at a seat, as a store and those who have retired have it
use Rattle.std.specs.Prelude.{◌≡◌, ℕ, true, false, Some}
use Rattle.std.specs.Ordering.{nat_cmp}
use Rattle.std.specs.FinSet as set
use Rattle.tg_vault.specs.declared.acting.Actor.{Actor}
use Rattle.tg_vault.specs.declared.acting.Actor.TheVariants.{At, Gone}
use Rattle.tg_collect.specs.Promise.Stored.{Stored}
use Rattle.tg_collect.specs.Promise.Readings.{place}

abbrev pub serial_in : Actor → ℕ
serial_in (At spot) = spot.serial
serial_in (Gone serial) = serial

-- the actor has not retired and is in the slot, or has retired
abbrev pub IsHere : Stored → set.FinSet nat_cmp → Actor → Type 0
IsHere s retired (At spot) = (place s spot.place ≡ Some spot.serial) × (set.contains retired spot.serial ≡ false)
IsHere s retired (Gone serial) = set.contains retired serial ≡ true
