-- rows of numbers that are linked both ways; `end`, the number of all numbers, ends each
use Rattle.std.specs.Prelude.{◌≡◌, ℕ, zero, suc, ◌<◌, List, [], ◌∷◌, ◌++◌, length, cond, nat_eq, nat_lt, map, slice_set}
use Rattle.std.proofs.Common.{get_or}
use Rattle.tg_index.specs.declared.buckets.Link.{Link}
use Rattle.tg_index.specs.Promise.Rows.{Rows, row, AreRows}

-- the link of a number; past the last, one that nothing reads
abbrev pub link_at : List Link → ℕ → Link
link_at ls n = get_or ls n (record { next = 0; previous = 0 })

-- the links once the one of a number, if there is one, has another neighbour
abbrev pub with_previous : List Link → ℕ → ℕ → List Link
with_previous ls n previous = slice_set ls n (record (link_at ls n) { previous = previous })

abbrev pub with_next : List Link → ℕ → ℕ → List Link
with_next ls n next = slice_set ls n (record (link_at ls n) { next = next })

-- the numbers that the links lead to from a head, at most this many
abbrev pub walk : ℕ → List Link → ℕ → ℕ → List ℕ
walk end ls zero head = []
walk end ls (suc n) head = cond (nat_eq head end) [] (head ∷ walk end ls n (link_at ls head).next)

-- the links lead from the head over these numbers, each linked back to the one before it, and end there; `before` is
-- the number before the head
abbrev pub Links : ℕ → List Link → ℕ → ℕ → List ℕ → Type 0
Links end ls before head [] = head ≡ end
Links end ls before head (n ∷ ns) = (head ≡ n) × (n < length ls) × ((link_at ls n).previous ≡ before) × Links end ls n (link_at ls n).next ns

-- the link of the first number of a row, with another after it
abbrev pub first_link : ℕ → ℕ → Link
first_link next end = record { next = next; previous = end }

-- a list after one of its elements was written, or the next one was appended
abbrev pub written : {X : Type 0} → List X → ℕ → X → List X
written xs n x = cond (nat_lt n (length xs)) (slice_set xs n x) (xs ++ x ∷ [])

-- these heads and links show the rows v
pub record AreLinked (hs : List ℕ) (ls : List Link) (v : Rows) : Type 0 where
  pub used : length ls ≡ v.used
  pub heads : length hs ≡ length v.lists
  pub rows : (b : ℕ) → b < length v.lists → Links v.size ls v.size (get_or hs b v.size) (row v.lists b)
  pub sound : AreRows v

-- what the walks from all heads return. No row has more numbers than were used.
abbrev pub walked : List ℕ → List Link → ℕ → Rows
walked hs ls size = record { lists = map (λ h. walk size ls (length ls) h) hs; used = length ls; size = size }
