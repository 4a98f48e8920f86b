-- what contracts see of an entry of the history
use Rattle.std.specs.Prelude.{ℕ}
use Rattle.tg_rights.specs.declared.command.Command.{Command}
use Rattle.tg_rights.specs.declared.outcome.Outcome.{Outcome}

-- the seat, the actor for whom it was judged, the command, and how it was decided
pub record Recorded : Type 0 where
  pub seat : ℕ
  pub actor : ℕ
  pub command : Command
  pub outcome : Outcome
