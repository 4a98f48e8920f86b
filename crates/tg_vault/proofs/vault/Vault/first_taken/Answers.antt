use Rattle.std.proofs.Common.{List, ℕ, length, ap, subst, ◌∙◌, IfSome, IfNone}
use Rattle.std.specs.Prelude.{Option}
use Rattle.tg_vault.specs.Promise.World.{IsLeastInUse, NobodySits}
use Rattle.tg_vault.specs.Promise.Contents.{Contents}
use Rattle.tg_vault.proofs.vault.Vault.first_taken.Goals as goal

pub first_in_use-requires : goal.first_in_use-requires
first_in_use-requires c = ap length c.as_slice-seats.ensures.value ∙ c.self.invariant.joins.vault.seats

pub returns-clause-some : goal.returns-clause-some
returns-clause-some c =
    subst (λ (w : Contents). IfSome c.first_in_use.result (IsLeastInUse w.seats)) c.self.view_is
    (subst (λ (seats : List (Option ℕ)). IfSome c.first_in_use.result (IsLeastInUse seats)) c.as_slice-seats.ensures.value c.first_in_use.ensures.some)

pub returns-clause-none : goal.returns-clause-none
returns-clause-none c =
    subst (λ (w : Contents). IfNone c.first_in_use.result (NobodySits w.seats)) c.self.view_is
    (subst (λ (seats : List (Option ℕ)). IfNone c.first_in_use.result (NobodySits seats)) c.as_slice-seats.ensures.value c.first_in_use.ensures.none)
