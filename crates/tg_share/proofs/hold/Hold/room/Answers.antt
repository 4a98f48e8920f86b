use Rattle.std.proofs.Common.{ap, subst, ◌∙◌}
use Rattle.tg_share.specs.Promise.Reached.{IsReached, UnderLock}
use Rattle.tg_share.proofs.hold.Hold.room.Goals as goal

pub returns-clause-reached : goal.returns-clause-reached
returns-clause-reached g c = subst IsReached (ap (λ (l : UnderLock). l.vault) (c.locked.view_is ∙ c.deref-locked.ensures) ∙ c.self.view_is) c.locked.invariant.reached
