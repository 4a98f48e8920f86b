use Rattle.std.proofs.Common.{subst, sym}
use Rattle.tg_vault.specs.Promise.Contents.{Contents, IsSmall, Keeps}
use Rattle.tg_vault.specs.Promise.Course.{IsCoherent}
use Rattle.tg_vault.specs.Promise.Cycles.{IsCycle}
use Rattle.tg_vault.specs.Inner.Contents.{contents}
use Rattle.tg_vault.proofs.SweptLemmas.{cycled, cycled_keeps, cycled_ties}
use Rattle.tg_vault.proofs.vault.Vault.cycle.Goals as goal

pub invariant_of-self : goal.invariant_of-self
invariant_of-self c = record {
  joins =
      cycled_ties (contents c.self.inside) (subst IsCoherent (sym c.self.view_is) c.soundness.ensures.coherent) (subst IsSmall (sym c.self.view_is) c.soundness.ensures.small)
      c.cycle-swept.new.self c.soundness-2.ensures.sound _ _ c.cycle-swept.ensures;
  serial = c.self.invariant.serial;
  retired = c.self.invariant.retired;
}

pub returns-clause-cycle : goal.returns-clause-cycle
returns-clause-cycle c =
    subst (λ (w : Contents). IsCycle w c.cycle-swept.result (record (contents c.self.inside) { store = c.cycle-swept.new.self })) c.self.view_is
    (cycled (contents c.self.inside) (subst IsCoherent (sym c.self.view_is) c.soundness.ensures.coherent) (subst IsSmall (sym c.self.view_is) c.soundness.ensures.small)
    c.cycle-swept.new.self c.soundness-2.ensures.sound _ _ c.cycle-swept.ensures)

pub returns-clause-keeps : goal.returns-clause-keeps
returns-clause-keeps c =
    subst (λ (w : Contents). Keeps w (record (contents c.self.inside) { store = c.cycle-swept.new.self })) c.self.view_is
    (cycled_keeps (contents c.self.inside) (subst IsCoherent (sym c.self.view_is) c.soundness.ensures.coherent) (subst IsSmall (sym c.self.view_is) c.soundness.ensures.small)
    c.cycle-swept.new.self c.soundness-2.ensures.sound _ _ c.cycle-swept.ensures)
