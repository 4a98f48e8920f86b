use Rattle.std.proofs.Common.{◌≡◌, ℕ, ◌+◌, subst}
use Rattle.tg_vault.specs.Promise.Contents.{Contents, moment}
use Rattle.tg_vault.specs.Inner.Contents.{contents}
use Rattle.tg_vault.proofs.CollectLemmas.{collected_joins, collected_step}
use Rattle.tg_vault.proofs.vault.Vault.collect.Goals as goal

pub invariant_of-self : goal.invariant_of-self
invariant_of-self c = record {
  joins = collected_joins (contents c.self.inside) c.self.invariant.joins c.collect-note.new.self c.soundness.ensures.sound c.soundness-2.ensures.sound _ _ c.collect-note.ensures.collected;
  serial = c.self.invariant.serial;
  retired = c.self.invariant.retired;
}

pub returns-clause-step : goal.returns-clause-step
returns-clause-step c =
    subst (λ (w : Contents). (used : ℕ) × ((moment w).world.used ≡ used + c.collect-note.result.freed) × (moment (record (contents c.self.inside) { store = c.collect-note.new.self }) ≡ record (moment w) { world = record (moment w).world { used = used } })) c.self.view_is
    (collected_step (contents c.self.inside) c.self.invariant.joins c.collect-note.new.self c.soundness.ensures.sound c.soundness-2.ensures.sound _ _ c.collect-note.ensures.collected)
