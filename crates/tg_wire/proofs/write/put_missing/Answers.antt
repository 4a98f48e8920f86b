use Rattle.std.proofs.Common.{◌≡◌, ◌++◌, ◌∙◌, decimal, refl}
use Rattle.std.specs.Prelude.{codes}
use Rattle.json.specs.Print.{quoted}
use Rattle.tg_rights.specs.Promise.Written.{rights_text}
use Rattle.tg_wire.specs.Inner.LastLine.{line_in}
use Rattle.tg_wire.specs.Promise.Ops.{command_form}
use Rattle.tg_wire.proofs.Literals.{numbers_on_literals}
use Rattle.tg_wire.proofs.DeniedLemmas.{missing_line, word_is_plain}
use Rattle.tg_wire.proofs.write.put_missing.Goals as goal

pub returns : goal.returns
unfolding numbers_on_literals
returns c =
    let word = (command_form c.args.rule).word in
    let from = decimal c.args.from in
    let letters = quoted (rights_text c.args.rights) in
    let to = decimal c.args.to in
    let bytes = c.as_bytes.ensures.value ∙ c.command_form.ensures.word in
    let parts : line_in c.put_start.new.self ≡ codes "{\"denied\":\"" ++ (word ++ (codes "\",\"from\":" ++ (from ++ (codes ",\"missing\":" ++ (letters ++ (codes ",\"to\":" ++ (to ++ codes "}\n"))))))) =
    rw (
      c.put_start.ensures,
      c.bytes_before-end-4.ensures.text,
      c.bytes_before-end-3.ensures.text,
      c.number_before-end-2.ensures.text,
      c.bytes_before-end-2.ensures.text,
      c.letters_before-end.ensures.text,
      c.bytes_before-end.ensures.text,
      c.number_before-end.ensures.text,
      c.put_end-end.ensures.text,
      bytes,
    ) refl in
    parts ∙ missing_line word from letters to (word_is_plain c.args.rule)
