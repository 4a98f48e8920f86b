use Rattle.std.proofs.Common.{length}
use Rattle.tg_lists.specs.Promise.Membership.{Contains}
use Rattle.tg_index.specs.Promise.Rows.{row}
use Rattle.tg_index.proofs.RowLemmas.{Walked, left}
use Rattle.tg_tests.proofs.index.has.Given as goal

-- The cursor is somewhere in the row, and the number is not among those that were passed.
abbrev pub invariant-loop-cursor : goal.invariant-loop-cursor
invariant-loop-cursor l = (w : Walked (row l.index.lists l.bucket) l.cursor) × (Contains w.passed l.number → ⊥)

abbrev pub decreases-loop-cursor : goal.decreases-loop-cursor
decreases-loop-cursor l = length (left (row l.index.lists l.bucket) l.cursor)
