use Rattle.std.proofs.Common.{refl}
use Rattle.tg_collect.proofs.StoreLemmas.{placed_within, text_found, field_shown}
use Rattle.tg_collect.proofs.store.Store.text.Goals as goal

pub text-requires : goal.text-requires
text-requires c = placed_within c.self.inside.machine c.args.id (rw (← c.self.view_is) at c.requires)

pub unwrap-requires : goal.unwrap-requires
unwrap-requires c = text_found c.self.inside.machine c.args.id (rw (← c.self.view_is) at c.requires) c.text.result (λ t. t.now) c.text.ensures

pub returns : goal.returns
returns c = rw (← c.self.view_is) (field_shown c.self.inside.machine c.args.id (rw (← c.self.view_is) at c.requires) (λ o. o.text) (λ u. u.text) c.unwrap.result.now c.self.invariant (λ o. refl) (rw c.unwrap.ensures at c.text.ensures))
