-- the code of a list of pairs
use Rattle.std.specs.Prelude.{ℕ, List, refl}
use Rattle.std.specs.Coded.{Coded, code_by, coded×, coded_ℕ, coded_list}
use Rattle.tg_lists.specs.Promise.Columns.{Pairs}

-- such a value is stored as the pair of its fields
abbrev pub pairs_code : {L R : Type 0} → Coded L → Coded R → Coded (Pairs L R)
pairs_code {L} {R} left right =
    code_by (List (L × R) × ℕ) (coded× (coded_list (coded× left right)) coded_ℕ) (λ c. (c.items, c.room)) (λ p. record { items = p.0; room = p.1 }) (λ _. refl)
