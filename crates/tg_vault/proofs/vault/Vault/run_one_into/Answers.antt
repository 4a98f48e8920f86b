use Rattle.std.proofs.Common.{refl, [], ◌∷◌}
use Rattle.tg_vault.specs.Promise.Course.{VaultStep}
use Rattle.tg_vault.proofs.vault.Vault.run_one_into.Goals as goal

-- the step of this event
stepped : (c : goal.After-soundness-2) → VaultStep c.args.self.now c.args.event.now c.act.new.answer c.act.new.self
stepped c = record {
  step = c.act.ensures.step;
  keeps = c.act.ensures.keeps;
  stored = c.act.ensures.stored;
  told = c.act.ensures.told;
  fits = c.soundness-2.ensures.fits;
  coherent = c.soundness-2.ensures.coherent;
}

pub returns-clause-step : goal.returns-clause-step
returns-clause-step c = stepped c

pub returns-clause-headline : goal.returns-clause-headline
returns-clause-headline c =
    (c.courses_have_the_headline.ensures c.args.self.now (c.args.event.now ∷ []) (c.act.new.answer ∷ []) c.act.new.self c.soundness.ensures.coherent (c.act.new.self, stepped c, refl)).0
