-- a set of the four rights, as the answers to four questions
use Rattle.std.specs.Prelude.{◌≡◌, ℕ, ◌+◌, Bool, true, false, if◌then◌else◌, ◌&&◌, ◌||◌, not, ◌==◌, ◌/◌, ◌%◌, ◌↔◌}

pub record Letters : Type 0 where
  pub read : Bool
  pub write : Bool
  pub take : Bool
  pub grant : Bool

abbrev pub none : Letters
none = record { read = false; write = false; take = false; grant = false }

-- the rights of either set
abbrev pub joined : Letters → Letters → Letters
joined a b = record { read = a.read || b.read; write = a.write || b.write; take = a.take || b.take; grant = a.grant || b.grant }

-- the rights of the first set that the second lacks
abbrev pub without : Letters → Letters → Letters
without a b = record { read = a.read && not b.read; write = a.write && not b.write; take = a.take && not b.take; grant = a.grant && not b.grant }

-- no right of the second set is missing in the first
abbrev pub includes : Letters → Letters → Bool
includes a b = (not b.read || a.read) && (not b.write || a.write) && (not b.take || a.take) && (not b.grant || a.grant)

abbrev pub is_none : Letters → Bool
is_none a = not a.read && not a.write && not a.take && not a.grant

-- the number whose bits are 1 for read, 2 for write, 4 for take and 8 for grant
abbrev pub number : Letters → ℕ
number a = (if a.read then 1 else 0) + ((if a.write then 2 else 0) + ((if a.take then 4 else 0) + (if a.grant then 8 else 0)))

abbrev pub letters : ℕ → Letters
letters n = record { read = n % 2 == 1; write = n / 2 % 2 == 1; take = n / 4 % 2 == 1; grant = n / 8 % 2 == 1 }

pub data Right : Type 0 where
  read write take grant : Right

-- whether a right is in the set
abbrev pub has : Letters → Right → Bool
has a read = a.read
has a write = a.write
has a take = a.take
has a grant = a.grant

-- the set of the rights that pass the test
abbrev pub rights_where : (Right → Bool) → Letters
rights_where test = record { read = test read; write = test write; take = test take; grant = test grant }

-- one right alone
abbrev pub read_alone : Letters
read_alone = record none { read = true }

abbrev pub write_alone : Letters
write_alone = record none { write = true }

abbrev pub take_alone : Letters
take_alone = record none { take = true }

abbrev pub grant_alone : Letters
grant_alone = record none { grant = true }

-- the operations are those on sets: a right is in the result as it is in the operands, one set includes another exactly
-- if it has each of its rights, a set is none exactly if it has no right, and a set's number has its letters
pub record AreSetOperations : Type 0 where
  pub union : (a b : Letters) (r : Right) → has (joined a b) r ≡ (has a r || has b r)
  pub difference : (a b : Letters) (r : Right) → has (without a b) r ≡ (has a r && not (has b r))
  pub nothing : (r : Right) → has none r ≡ false
  pub inclusion : (a b : Letters) → (includes a b ≡ true) ↔ ((r : Right) → has b r ≡ true → has a r ≡ true)
  pub emptiness : (a : Letters) → (is_none a ≡ true) ↔ ((r : Right) → has a r ≡ false)
  pub numbering : (a : Letters) → letters (number a) ≡ a
