use Rattle.std.proofs.Common.{◌++◌, sym, ap, ◌∙◌}
use Rattle.std.specs.List.{list_all}
use Rattle.tg_wire.specs.Inner.Keys.{is_in_set}
use Rattle.tg_wire.specs.Inner.Known.{known_set}
use Rattle.tg_wire.specs.Promise.Lines.{line_extras}
use Rattle.tg_wire.specs.Promise.Ops.{op_form}
use Rattle.tg_wire.proofs.FlatLemmas.{flat_known_in}
use Rattle.tg_wire.proofs.KnownLemmas.{set_is_known}
use Rattle.tg_wire.proofs.flat.Flat.knows_line.Goals as goal

pub returns : goal.returns
returns c =
    let op = c.args.op in
    let ms = c.args.self.now.members.now.list.items in
    c.are_in.ensures ∙ ap (λ set. list_all (λ m. is_in_set set m.key) ms) c.known.ensures
    ∙ sym (flat_known_in (known_set op) (line_extras ++ (op_form op).fields) ms (set_is_known op))
