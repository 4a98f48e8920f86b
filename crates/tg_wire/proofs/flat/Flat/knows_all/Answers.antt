use Rattle.std.proofs.Common.{◌∙◌, sym}
use Rattle.tg_wire.proofs.FlatLemmas.{flat_known}
use Rattle.tg_wire.proofs.flat.Flat.knows_all.Goals as goal

pub returns : goal.returns
returns c = c.are_known.ensures ∙ sym (flat_known c.args.others.now c.args.required.now c.args.self.now.members.now.list.items)
