use Rattle.std.proofs.Common.{sym, ◌∙◌, refl}
use Rattle.tg_collect.proofs.StoreLemmas.{placed_within, found_in, field_shown}
use Rattle.tg_collect.proofs.store.Store.kind.Goals as goal

pub kind-requires : goal.kind-requires
kind-requires c = placed_within c.self.inside.machine c.args.id (rw (← c.self.view_is) at c.requires)

pub unwrap-requires : goal.unwrap-requires
unwrap-requires c = found_in c.self.inside.machine c.args.id (rw (← c.self.view_is) at c.requires) (λ o. o.kind) c.kind.result c.kind.ensures

pub returns : goal.returns
returns c = rw (← c.self.view_is) (field_shown c.self.inside.machine c.args.id (rw (← c.self.view_is) at c.requires) (λ o. o.kind) (λ u. u.kind) c.unwrap.result c.self.invariant (λ o. refl) (sym c.kind.ensures ∙ c.unwrap.ensures))
