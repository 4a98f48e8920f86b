-- what a shared vault begins with
use Rattle.std.specs.Prelude.{◌≡◌, ℕ, List, []}
use Rattle.std.specs.declared.sync.ledger.Blank.{Blank}
use Rattle.tg_share.specs.declared.locked.TheConstants.{PARTS}

-- a ledger of this name and so many parts, one for each session there may be, and a history without entries
pub record IsBlank {E : Type 0} (name parts : ℕ) (blank : Blank) (history : List E) : Type 0 where
  pub name_is : blank.name ≡ name
  pub parts_are : blank.parts ≡ parts
  pub all : blank.parts ≡ PARTS
  pub empty : history ≡ []
