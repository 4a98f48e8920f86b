use Rattle.std.proofs.Common.{ℕ, arith}
use borrow.Author.Count.{below_more}
use Rattle.tg_lists.specs.Promise.Membership.{Contains}
use Rattle.tg_index.specs.Promise.Rows.{row}
use Rattle.tg_index.proofs.RowLemmas.{held_within}
use Rattle.tg_tests.proofs.index.is_unheld.Goals as goal

pub loop-bucket-preserved : goal.loop-bucket-preserved
loop-bucket-preserved g c = below_more (λ (b : ℕ). Contains (row c.args.index.now.lists b) c.args.number → ⊥) c.loop-bucket.bucket c.loop-bucket.invariant c.is_not_in.ensures

pub returns : goal.returns
returns g c = λ b h. let within = held_within c.args.index.now.lists b c.args.number h in c.loop-bucket.invariant b (omega arith) h
