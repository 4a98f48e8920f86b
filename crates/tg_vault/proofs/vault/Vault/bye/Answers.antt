use Rattle.std.proofs.Common.{◌≡◌, ℕ, ◌<◌, None, Some, set, subst, sym, arith}
use Rattle.std.proofs.lemmas.Grind.{common_steps}
use Rattle.tg_rights.specs.declared.limits.TheConstants.{SEATS}
use Rattle.tg_collect.specs.Promise.Readings.{agents, pending_of}
use Rattle.tg_vault.specs.Promise.World.{World, at_seat, bye_fault}
use Rattle.tg_vault.specs.Promise.Contents.{Contents, moment}
use Rattle.tg_vault.specs.Inner.Contents.{contents}
use Rattle.tg_vault.proofs.CollectLemmas.{left_joins, left_step}
use Rattle.tg_vault.proofs.vault.Vault.bye.Goals as goal

no_fault : (w : World) (seat x : ℕ) → seat < SEATS → at_seat w.seats seat ≡ Some x → at_seat w.pending seat ≡ None → bye_fault w seat ≡ None
no_fault w seat x within at idle = grind (arith, common_steps)

pub invariant_of-self : goal.invariant_of-self
invariant_of-self c =
    left_joins (contents c.self.inside) c.self.inside.state.next c.self.inside.state.retired.keys c.self.invariant c.leave.new.self c.args.seat
    (subst (λ (w : Contents). pending_of w.store c.args.seat ≡ None) (sym c.self.view_is) c.in_ok-idle_at.ensures.ok.2) c.leave.ensures.left c.leave.ensures.acted

pub returns-clause-step : goal.returns-clause-step
returns-clause-step c = (
  no_fault (moment c.args.self.now).world c.args.seat _ c.in_ok-idle_at.ensures.ok.0 c.in_ok-idle_at.ensures.ok.1 c.in_ok-idle_at.ensures.ok.2,
  subst (λ (w : Contents). moment (record (contents c.self.inside) { seats = set c.self.inside.seats.items c.args.seat None; store = c.leave.new.self }) ≡ record (moment w) { world = record (moment w).world { seats = set w.seats c.args.seat None; agents = set (agents w.store) c.args.seat None } }) c.self.view_is
      (left_step (contents c.self.inside) c.self.inside.state.next c.self.inside.state.retired.keys c.self.invariant c.leave.new.self c.args.seat
      (subst (λ (w : Contents). pending_of w.store c.args.seat ≡ None) (sym c.self.view_is) c.in_ok-idle_at.ensures.ok.2) c.leave.ensures.left c.leave.ensures.acted),
)
