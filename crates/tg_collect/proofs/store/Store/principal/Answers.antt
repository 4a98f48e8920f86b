use Rattle.std.proofs.Common.{arith, ap, length}
use Rattle.tg_collect.proofs.StoreLemmas.{principal_found, no_principal}
use Rattle.tg_collect.proofs.store.Store.principal.Goals as goal

pub returns-then-root-serial : goal.returns-then-root-serial
returns-then-root-serial c =
    let items = c.as_slice-root-items.ensures in
    rw (← c.self.view_is, items) (principal_found c.self.inside.machine c.loop-root.root-index _ c.self.invariant (rw items at c.loop-root-test.true) c.args.serial (rw items at c.if-root-serial.true))

pub returns : goal.returns
returns c = rw (← c.self.view_is) (no_principal c.self.inside.machine c.args.serial _ (λ k b. rw (← c.self.view_is) at c.loop-root.invariant k (let l = ap length c.as_slice-root-items.ensures in omega (arith, b, l))))
