use Rattle.tg_collect.proofs.LineLemmas.{collected, whole_steps}
use Rattle.tg_collect.proofs.store.Store.collect.Goals as goal

pub returns-clause-collected : goal.returns-clause-collected
returns-clause-collected c = rw (← c.self.view_is) (collected _ _ _ _ c.collect-note.ensures.line c.soundness.ensures.sound c.soundness-2.ensures.sound c.self.invariant)

pub invariant_of-self : goal.invariant_of-self
invariant_of-self c = whole_steps _ _ _ _ c.collect-note.ensures.line c.self.invariant
