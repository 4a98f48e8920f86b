use Rattle.std.proofs.Common.{◌≡◌, IsUtf8, sym, ap, ◌∙◌, subst, rules}
use Rattle.serde_json.specs.Read.{read}
use Rattle.tg_wire.specs.Inner.Flat.{TakesObject}
use Rattle.tg_wire.proofs.FlatLemmas.{object_read, some_weaker}
use Rattle.tg_wire.proofs.ReadingLemmas.{json_of-read}
use Rattle.tg_wire.proofs.escaped.read_escaped.Goals as goal

pub returns : goal.returns
returns c =
    let line = c.in-Ok.line.now in
    let text : (line ≡ c.args.bytes.now) × IsUtf8 c.args.bytes.now = search rules in
    let ms = c.take_object.new.found.list.items in
    some_weaker c.take_object.result _ _ (λ done took. json_of-read c.args.bytes.now _ text.1 (ap read (sym text.0) ∙ object_read line ms (subst (λ ts. TakesObject ts ms) c.in_ok-reader.ensures.ok took))) c.take_object.ensures
