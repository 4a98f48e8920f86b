-- lists of slot indices through one link field of each slot; `end`, the number of slots, ends them
use Rattle.std.specs.Prelude.{◌≡◌, ℕ, zero, suc, ◌<◌, List, [], ◌∷◌, cond, nat_eq, length}
use Rattle.std.proofs.Common.{get_or}

-- the indices that the links lead to from a head, at most this many
abbrev pub walk : ℕ → List ℕ → ℕ → ℕ → List ℕ
walk end links zero head = []
walk end links (suc n) head = cond (nat_eq head end) [] (head ∷ walk end links n (get_or links head end))

-- the links lead from the head over these indices, and end there
abbrev pub IndexChain : ℕ → List ℕ → ℕ → List ℕ → Type 0
IndexChain end links head [] = head ≡ end
IndexChain end links head (j ∷ l) = (head ≡ j) × (j < length links) × IndexChain end links (get_or links j end) l
