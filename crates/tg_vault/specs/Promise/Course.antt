-- a run with the contents in between, and what each event does
use Rattle.std.specs.Prelude.{◌≡◌, List, [], ◌∷◌, ◌++◌}
use Rattle.tg_vault.specs.declared.event.Event.{Event}
use Rattle.tg_vault.specs.declared.event.Answer.{Answer}
use Rattle.tg_collect.specs.Promise.Views.{IsStore}
use Rattle.tg_vault.specs.Promise.Contents.{Contents, StepOf, Keeps, Fits, Ties, StoreAnswer}
use Rattle.tg_vault.specs.Promise.StoreSteps.{StoreStep}

-- a vault is coherent: what it keeps is tied to its store, and the store is a store
pub record IsCoherent (v : Contents) : Type 0 where
  pub ties : Ties v
  pub store : IsStore v.store

-- one event: its answer by the world, what it does to the store and says of it, and again a coherent vault whose store
-- fits the graph of the history
pub record VaultStep (old : Contents) (e : Event) (a : Answer) (new : Contents) : Type 0 where
  pub step : StepOf old e a new
  pub keeps : Keeps old new
  pub stored : StoreStep old e a new
  pub told : StoreAnswer old e a new
  pub fits : Fits new
  pub coherent : IsCoherent new

-- the events have these answers, one after another
abbrev pub Course : Contents → List Event → List Answer → Contents → Type 0
Course old [] [] new = new ≡ old
Course old (e ∷ es) (a ∷ answers) new = (between : Contents) × VaultStep old e a between × Course between es answers new
Course old [] (a ∷ answers) new = ⊥
Course old (e ∷ es) [] new = ⊥

-- one course after another is a course
abbrev pub CoursesJoin : Type 0
CoursesJoin =
    (old between new : Contents) (es more : List Event) (answers later : List Answer) → Course old es answers between → Course between more later new →
    Course old (es ++ more) (answers ++ later) new
