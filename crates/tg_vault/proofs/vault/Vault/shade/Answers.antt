use Rattle.std.proofs.Common.{◌≡◌, ℕ, ◌<◌, None, Some, set, subst, arith}
use Rattle.std.proofs.lemmas.Grind.{common_steps}
use Rattle.tg_rights.specs.declared.limits.TheConstants.{SEATS}
use Rattle.tg_collect.specs.Promise.Readings.{pending, pending_of}
use Rattle.tg_vault.specs.Promise.World.{World, at_seat, shade_fault}
use Rattle.tg_vault.specs.Promise.Contents.{Contents, moment}
use Rattle.tg_vault.specs.Inner.Contents.{contents}
use Rattle.tg_vault.proofs.CollectLemmas.{shaded_joins, shaded_step}
use Rattle.tg_vault.proofs.vault.Vault.shade.Goals as goal

no_fault : (w : World) (seat x : ℕ) → seat < SEATS → at_seat w.seats seat ≡ Some x → shade_fault w seat ≡ None
no_fault w seat x within at = grind (arith, common_steps)

pub invariant_of-self : goal.invariant_of-self
invariant_of-self c = record {
  joins = shaded_joins (contents c.self.inside) c.self.invariant.joins c.shade-target.new.self c.args.seat c.shade-target.result c.shade-target.ensures.shaded c.shade-target.ensures.acted;
  serial = c.self.invariant.serial;
  retired = c.self.invariant.retired;
}

pub returns-clause-step : goal.returns-clause-step
returns-clause-step c =
    let faultless = no_fault (moment c.args.self.now).world c.args.seat _ c.in_ok-principal_at.ensures.ok.0 c.in_ok-principal_at.ensures.ok.1 in
    let went = subst (λ (w : Contents). (c.shade-target.result ≡ pending_of w.store c.args.seat) × (moment (record (contents c.self.inside) { store = c.shade-target.new.self }) ≡ record (moment w) { world = record (moment w).world { pending = set (pending w.store) c.args.seat None } }))
    c.self.view_is (shaded_step (contents c.self.inside) c.self.invariant.joins c.shade-target.new.self c.args.seat c.shade-target.result c.shade-target.ensures.shaded c.shade-target.ensures.acted) in
    (faultless, went.0, went.1)
