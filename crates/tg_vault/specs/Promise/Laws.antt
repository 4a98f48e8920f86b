-- what holds of courses
use Rattle.std.specs.Prelude.{◌≡◌, ◌↔◌, ℕ, Bool, true, false, List}
use Rattle.tg_vault.specs.declared.event.AskFault.{AskFault}
use Rattle.tg_vault.specs.declared.event.AskFault.TheVariants as ask_fault
use Rattle.tg_vault.specs.declared.event.Event.{Event}
use Rattle.tg_vault.specs.declared.event.Answer.{Answer}
use Rattle.tg_vault.specs.Promise.Contents.{Contents}
use Rattle.tg_vault.specs.Promise.Course.{Course, IsCoherent}
use Rattle.tg_vault.specs.Promise.Cycles.{IsBounded}
use Rattle.tg_vault.specs.Promise.Headline.{Headline}
use Rattle.tg_vault.specs.Promise.World.{World, IsAskFault, has_target, in_use, no_seat}

-- each course from a coherent vault has the headline and the bound
abbrev pub CoursesHaveTheHeadline : Type 0
CoursesHaveTheHeadline =
    (old : Contents) (es : List Event) (answers : List Answer) (new : Contents) → IsCoherent old → Course old es answers new →
    Headline old es answers new × IsBounded old answers

-- what a fault of a command means: exactly one of the four has its place
abbrev pub MeansOfItsSeat : (no_seat in_use has_target : Bool) → AskFault → Type 0
MeansOfItsSeat no_seat in_use has_target fault =
    ((fault ≡ ask_fault.NoSeat) ↔ (no_seat ≡ true))
    × ((fault ≡ ask_fault.NoActor) ↔ ((no_seat ≡ false) × (in_use ≡ false)))
    × ((fault ≡ ask_fault.Busy) ↔ ((no_seat ≡ false) × (in_use ≡ true) × (has_target ≡ true)))
    × ((fault ≡ ask_fault.OutOfMemory) ↔ ((no_seat ≡ false) × (in_use ≡ true) × (has_target ≡ false)))

abbrev pub FaultsAreOrdered : Type 0
FaultsAreOrdered = (w : World) (seat : ℕ) (fault : AskFault) → IsAskFault w seat fault → MeansOfItsSeat (no_seat w seat) (in_use w seat) (has_target w seat) fault
