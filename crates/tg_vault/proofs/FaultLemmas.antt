-- What a fault of a command means.
use Rattle.std.proofs.Common.{◌≡◌, ℕ, Bool, true, false, cond, Option, Some, None, refl}
use Rattle.tg_vault.specs.declared.event.AskFault.{AskFault}
use Rattle.tg_vault.specs.declared.event.AskFault.TheVariants.{NoSeat, NoActor, Busy, OutOfMemory}
use Rattle.tg_vault.specs.Promise.Laws.{FaultsAreOrdered, MeansOfItsSeat}
use Rattle.tg_vault.specs.Promise.World.{World, IsAskFault, has_target, in_use, no_seat}

-- the first fault of a seat, and that it is this one; for want of memory if there is none
abbrev refusal : (a b c : Bool) → Option AskFault
refusal a b c = cond a (Some NoSeat) (cond b (cond c (Some Busy) None) (Some NoActor))

abbrev IsFirst : Option AskFault → AskFault → Type 0
IsFirst first NoSeat = first ≡ Some NoSeat
IsFirst first NoActor = first ≡ Some NoActor
IsFirst first Busy = first ≡ Some Busy
IsFirst first OutOfMemory = first ≡ None

means : (a b c : Bool) (fault : AskFault) → IsFirst (refusal a b c) fault → MeansOfItsSeat a b c fault
means true b c NoSeat is = ((λ _. refl, λ _. refl), (λ e. absurd (cc e), λ h. absurd (cc h.0)), (λ e. absurd (cc e), λ h. absurd (cc h.0)), (λ e. absurd (cc e), λ h. absurd (cc h.0)))
means false false c NoActor is = ((λ e. absurd (cc e), λ e. absurd (cc e)), (λ _. (refl, refl), λ _. refl), (λ e. absurd (cc e), λ h. absurd (cc h.1)), (λ e. absurd (cc e), λ h. absurd (cc h.1)))
means false true true Busy is = ((λ e. absurd (cc e), λ e. absurd (cc e)), (λ e. absurd (cc e), λ h. absurd (cc h.1)), (λ _. (refl, refl, refl), λ _. refl), (λ e. absurd (cc e), λ h. absurd (cc h.2)))
means false true false OutOfMemory is = ((λ e. absurd (cc e), λ e. absurd (cc e)), (λ e. absurd (cc e), λ h. absurd (cc h.1)), (λ e. absurd (cc e), λ h. absurd (cc h.2)), (λ _. (refl, refl, refl), λ _. refl))
means _ _ _ _ is = absurd (cc is)

is_first : (w : World) (seat : ℕ) (fault : AskFault) → IsAskFault w seat fault → IsFirst (refusal (no_seat w seat) (in_use w seat) (has_target w seat)) fault
is_first w seat NoSeat is = is
is_first w seat _ is = is

pub faults_are_ordered : FaultsAreOrdered
faults_are_ordered w seat fault is = means (no_seat w seat) (in_use w seat) (has_target w seat) fault (is_first w seat fault is)
