use Rattle.std.proofs.Common.{ℕ, ◌<◌}
use Rattle.tg_lists.specs.Promise.Membership.{Contains}
use Rattle.tg_index.specs.Promise.Rows.{row}
use Rattle.tg_tests.proofs.index.is_unheld.Given as goal

abbrev pub invariant-loop-bucket : goal.invariant-loop-bucket
invariant-loop-bucket g l = (b : ℕ) → b < l.bucket → Contains (row l.index.lists b) l.number → ⊥
