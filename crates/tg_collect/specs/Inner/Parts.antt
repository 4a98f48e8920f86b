-- how what is held is listed, slot by slot
use Rattle.std.specs.Prelude.{ℕ, List, ◌↔◌, Option}
use Rattle.std.specs.Option.{option_map}
use Rattle.tg_graph.specs.Promise.Parts.{Listed, Rises}
use Rattle.tg_marking.specs.Promise.Values.{Contains, Kept}
use Rattle.tg_collect.specs.Promise.Readings.{kept}
use Rattle.tg_collect.specs.Promise.Stored.{Stored}

-- what a slot holds, as it is listed
abbrev pub listed_as : Kept → Listed
listed_as k = (k.serial, k.kind, k.text)

abbrev pub listed_at : Stored → ℕ → Option Listed
listed_at v i = option_map listed_as (kept v i)

-- the list has exactly what the slots give, in order
pub record AreFound {X : Type 0} (given : ℕ → List X) (before : X → X → Type 0) (found : List X) : Type 0 where
  pub has : (x : X) → Contains found x ↔ ((i : ℕ) × Contains (given i) x)
  pub rising : Rises before found
