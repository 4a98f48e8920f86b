use Rattle.std.proofs.Common.{subst}
use Rattle.tg_vault.specs.Promise.Rebase.{Rebases}
use Rattle.tg_serve.proofs.rounds.rebase.Goals as goal

pub returns-in-Fresh-clause-fresh : goal.returns-in-Fresh-clause-fresh
returns-in-Fresh-clause-fresh g c =
    let rebased = subst (Rebases c.args.settled) c.in-Fresh.is c.rebase_from-rebased.ensures.rebased in
    rebased.2

pub returns-in-Fresh-clause-told : goal.returns-in-Fresh-clause-told
returns-in-Fresh-clause-told g c = λ told.
    let rebased = subst (Rebases c.args.settled) c.in-Fresh.is c.rebase_from-rebased.ensures.rebased in
    let sent = c.tell_rebase.ensures told in
    rw rebased.1 at sent

pub returns-in-Seated-clause-ended : goal.returns-in-Seated-clause-ended
returns-in-Seated-clause-ended g c =
    let rebased = subst (Rebases c.args.settled) c.in-Seated.is c.rebase_from-rebased.ensures.rebased in
    record { vault = c.args.settled; seat = _; used = rebased.1 }
