-- what a list of pairs ends as, once the right half of a pair was lent
use Rattle.std.specs.Prelude.{ℕ}
use Rattle.std.specs.Borrow.{Lends, Fml, RattleType, MutBor}
use Rattle.tg_lists.specs.Promise.Columns.{Pairs, with_right}
use Rattle.tg_lists.specs.contracts.columns.Columns.{the_row}

module _ (L R : RattleType) (c : MutBor (Pairs L.Denot R.Denot)) where
  abbrev pub lends_right : ℕ → MutBor R.Denot → Fml
  lends_right i b = Lends (the_row L R) R c b (λ w. record c.now { items = with_right c.now.items i w })
