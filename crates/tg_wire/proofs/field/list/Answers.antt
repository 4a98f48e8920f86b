use Rattle.std.proofs.Common.{option_and_then, sym, ap, ◌∙◌}
use Rattle.serde_json.specs.Find.{as_array, get}
use Rattle.tg_wire.specs.Inner.Flat.{data_of}
use Rattle.tg_wire.specs.Inner.Keys.{key_text}
use Rattle.tg_wire.proofs.FlatLemmas.{flat_no_list}
use Rattle.tg_wire.proofs.field.list.Goals as goal

pub returns-in-Flat : goal.returns-in-Flat
returns-in-Flat c = flat_no_list c.in-Flat.field-0.members.now.list.items (key_text c.args.key) ∙ ap (λ o. option_and_then as_array (get (key_text c.args.key) (data_of o))) (sym c.in-Flat.is)
