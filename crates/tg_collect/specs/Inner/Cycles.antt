-- collector steps of the machine, one after another
use Rattle.std.specs.Prelude.{◌≤◌, ℕ, ◌+◌}
use Rattle.tg_collect.specs.declared.machine.Machine.{Machine}
use Rattle.tg_collect.specs.Promise.Runs.{Collecting}
use Rattle.tg_collect.specs.Inner.Machine.{Whole}
use Rattle.tg_collect.specs.Inner.Stored.{stored}

-- what is left of a cycle, and more than can be left of any
abbrev pub steps_left : Machine → ℕ
steps_left m = (stored m).left

abbrev pub MOST_STEPS : ℕ
MOST_STEPS = 1099511627776

-- steps that end no cycle lead from one machine to another
pub record Went (m n : Machine) (freed steps : ℕ) : Type 0 where
  pub collecting : Collecting (stored m) (stored n) freed steps
  pub whole : Whole n
  pub left : steps + steps_left n ≤ steps_left m
  pub few : freed ≤ steps
