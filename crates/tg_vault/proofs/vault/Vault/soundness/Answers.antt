use Rattle.std.proofs.Common.{subst}
use Rattle.tg_vault.specs.Promise.Contents.{Fits}
use Rattle.tg_vault.proofs.FitsLemmas.{fits_are}
use Rattle.tg_vault.proofs.vault.Vault.soundness.Goals as goal

pub returns-clause-fits : goal.returns-clause-fits
returns-clause-fits c = subst Fits c.self.view_is (fits_are _ c.self.invariant.joins c.soundness-2.ensures.sound)
