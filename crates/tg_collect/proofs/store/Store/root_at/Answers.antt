use Rattle.std.proofs.Common.{refl, sym, ◌∙◌}
use Rattle.tg_collect.proofs.StoreLemmas.{placed_within, found_in, serial_found}
use Rattle.tg_collect.proofs.store.Store.root_at.Goals as goal

pub serial-requires : goal.serial-requires
serial-requires c = placed_within c.self.inside.machine c.args.id (rw (sym c.self.view_is) at c.requires)

pub unwrap-serial-requires : goal.unwrap-serial-requires
unwrap-serial-requires c = found_in c.self.inside.machine c.args.id (rw (sym c.self.view_is) at c.requires) (λ o. o.serial) c.serial.result c.serial.ensures

pub returns : goal.returns
returns c = rw (← c.self.view_is, serial_found c.self.inside.machine c.args.id (rw (sym c.self.view_is) at c.requires) c.unwrap-serial.result (sym c.serial.ensures ∙ c.unwrap-serial.ensures)) refl
