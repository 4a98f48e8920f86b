-- the edges of a list that a cursor has yet to pass
use Rattle.std.specs.Prelude.{ℕ, List, [], ◌∷◌, Option, Some, None, cond, nat_eq}
use Rattle.tg_cells.specs.Promise.Lists.{Edge}

-- the edges from the cursor on. Without a cursor, all are passed.
abbrev pub remaining : Option ℕ → List Edge → List Edge
remaining None es = []
remaining (Some c) [] = []
remaining (Some c) (e ∷ es) = cond (nat_eq e.cell c) (e ∷ es) (remaining (Some c) es)
