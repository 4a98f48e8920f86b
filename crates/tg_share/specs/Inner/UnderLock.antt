-- what is kept of what lies under the lock, and its code
use Rattle.std.specs.Prelude.{◌≡◌, ◌+◌, ◌<◌, ℕ, length, refl}
use Rattle.std.specs.Coded.{Coded, code_by, coded×, coded_ℕ}
use Rattle.tg_vault.specs.Promise.Contents.{Contents}
use Rattle.tg_vault.specs.Inner.Contents.{contents_code}
use Rattle.tg_share.specs.declared.locked.TheConstants.{PARTS}
use Rattle.tg_share.specs.Promise.Reached.{IsReached, UnderLock}

abbrev pub under_lock_code : Coded UnderLock
under_lock_code = code_by (Contents × ℕ) (coded× contents_code coded_ℕ) (λ l. (l.vault, l.given)) (λ p. record { vault = p.0; given = p.1 }) (λ _. refl)

-- events have led to the vault; the book has the number of its entries; no entry is counted by the parts that no session
-- has, which are all but those given; and one is left
pub record IsLocked (v : Contents) (total rest amount given : ℕ) : Type 0 where
  pub reached : IsReached v
  pub counted : total ≡ length v.history
  pub uncounted : amount ≡ 0
  pub parts : rest + given ≡ PARTS
  pub one_left : given < PARTS
