use Rattle.std.proofs.Common.{sym, ◌∙◌}
use Rattle.tg_wire.specs.Inner.Flat.{data_of}
use Rattle.tg_wire.specs.Promise.Ops.{op_form}
use Rattle.tg_wire.specs.Promise.Lines.{line_extras}
use Rattle.tg_wire.proofs.OpsLemmas.{line_given}
use Rattle.tg_wire.proofs.ReadingLemmas.{read_well}
use Rattle.tg_wire.proofs.read.only_known.Goals as goal

pub returns : goal.returns
returns c =
    let d = data_of c.args.object.now in
    let form = op_form c.args.op in
    let known = sym c.knows_line.ensures ∙ c.in_ok-knows_line.was in
    read_well form.fields line_extras form.value d c.args.line.now _ (line_given c.args.op d c.args.line.now c.requires) c.requires known
