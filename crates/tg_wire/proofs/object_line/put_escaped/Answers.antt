use Rattle.std.proofs.Common.{◌∷◌, ◌++◌, [], ap, ◌∙◌, arith}
use Rattle.std.proofs.lemmas.Grind.{common_steps}
use Rattle.json.specs.Token.{string}
use Rattle.tg_wire.proofs.ObjectLineLemmas.{text_told}
use Rattle.tg_wire.proofs.object_line.put_escaped.Goals as goal

pub returns : goal.returns
returns c =
    let said = c.in_ok-string.ensures in
    let told = text_told c.args.line.now.items c.args.text.now c.string.new.self.tokens (said.ok ∙ ap (λ ts. ts ++ string c.args.text.now ∷ []) c.new-out.ensures.tokens) in
    let before = said.room.0 in
    first_of (cc, grind (arith, common_steps))
