use Rattle.std.proofs.Common.{sym, ap, ◌∙◌}
use Rattle.serde_json.specs.Read.{read}
use Rattle.tg_wire.proofs.FlatLemmas.{some_weaker}
use Rattle.tg_wire.proofs.ReadingLemmas.{json_of-read}
use Rattle.tg_wire.proofs.flat.read_flat.Goals as goal

pub returns : goal.returns
returns c =
    let same = c.in_ok-line.ensures.same in
    some_weaker c.read_object.result _ _ (λ done h. json_of-read c.args.bytes.now _ c.in_ok-line.ensures.utf8 (ap read (sym same) ∙ h)) c.read_object.ensures
