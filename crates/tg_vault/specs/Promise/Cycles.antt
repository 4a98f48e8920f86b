-- cycles of the collector in a run
use Rattle.std.specs.Prelude.{◌≡◌, ◌≤◌, ◌⊎◌, ℕ, ◌+◌, true, false, if◌then◌else◌, List, [], ◌∷◌, ◌++◌, length, map, take, drop, sum_by, All}
use Rattle.tg_graph.specs.Promise.Protection.{Live}
use Rattle.tg_collect.specs.declared.note.Phase.{Phase}
use Rattle.tg_collect.specs.declared.note.Phase.TheVariants.{Idle}
use Rattle.tg_collect.specs.declared.note.Note.{Note}
use Rattle.tg_vault.specs.declared.event.Event.{Event}
use Rattle.tg_vault.specs.declared.event.Event.TheVariants as event
use Rattle.tg_vault.specs.declared.event.Answer.{Answer}
use Rattle.tg_vault.specs.declared.event.Answer.TheVariants as answer
use Rattle.tg_collect.specs.declared.note.Swept.{Swept}
use Rattle.tg_collect.specs.Promise.Readings.{cycle_bound, phase}
use Rattle.tg_vault.specs.Promise.World.{Moment, Run}
use Rattle.tg_vault.specs.Promise.Contents.{Contents, moment, IsRoot, HasSlot}
use Rattle.tg_vault.specs.Promise.Course.{Course}

-- the phase after these answers: that of the latest note, or the one before any
abbrev pub phase_after : Phase → List Answer → Phase
phase_after phase [] = phase
phase_after phase (answer.Noted note ∷ answers) = phase_after note.phase answers
phase_after phase (_ ∷ answers) = phase_after phase answers

-- the notes among the answers
abbrev pub notes_in : List Answer → List Note
notes_in [] = []
notes_in (answer.Noted note ∷ answers) = note ∷ notes_in answers
notes_in (_ ∷ answers) = notes_in answers

-- how many cycles end
abbrev pub ended_in : List Answer → ℕ
ended_in answers = sum_by (λ n. if n.ended then 1 else 0) (notes_in answers)

-- the world before the answer after `front`: the run leads to it, and from it to the end
pub record IsBetween (old : Contents) (es : List Event) (front rest : List Answer) (new : Contents) (m : Moment) : Type 0 where
  pub before : Run old.limits (moment old) (take (length front) es) front m
  pub after : Run old.limits m (drop (length front) es) rest (moment new)

-- if a cycle starts and two cycles end from then on, what has a slot at the end was live in the world before the start,
-- or has a serial that was not below the next one at that time
abbrev pub IsComplete : Contents → List Event → List Answer → Contents → Type 0
IsComplete old es answers new =
    (front back : List Answer) (note : Note) → answers ≡ front ++ answer.Noted note ∷ back → phase_after (phase old.store) front ≡ Idle → 2 ≤ ended_in (answer.Noted note ∷ back) →
    (m : Moment) × IsBetween old es front (answer.Noted note ∷ back) new m × ((x : ℕ) → HasSlot new x → Live m.world.graph (IsRoot m.world) x ⊎ (m.world.graph.next ≤ x))

-- among this many collector steps in a row one ends a cycle
abbrev pub IsBounded : Contents → List Answer → Type 0
IsBounded old answers =
    (front middle back : List Answer) → answers ≡ front ++ (middle ++ back) → cycle_bound old.limits.slots old.limits.cells ≤ length (notes_in middle) → 1 ≤ ended_in middle

-- collector steps up to the first that ends a cycle, and their sums
pub record IsCycle (old : Contents) (swept : Swept) (new : Contents) : Type 0 where
  pub notes : List Note
  pub last : Note
  pub course : Course old (map (λ _. event.Collect) (notes ++ last ∷ [])) (map (λ n. answer.Noted n) (notes ++ last ∷ [])) new
  pub none : All (λ n. n.ended ≡ false) notes
  pub ended : last.ended ≡ true
  pub freed : swept.freed ≡ sum_by (λ n. n.freed) (notes ++ last ∷ [])
  pub steps : swept.steps ≡ length notes + 1
  pub few : swept.steps ≤ cycle_bound old.limits.slots old.limits.cells
