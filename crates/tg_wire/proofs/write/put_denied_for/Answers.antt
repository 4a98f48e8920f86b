use Rattle.std.proofs.Common.{◌≡◌, ◌++◌, ◌∙◌, refl}
use Rattle.std.specs.Prelude.{codes}
use Rattle.tg_wire.specs.Inner.LastLine.{line_in}
use Rattle.tg_wire.specs.Promise.Ops.{command_form}
use Rattle.tg_wire.proofs.Literals.{numbers_on_literals}
use Rattle.tg_wire.proofs.DeniedLemmas.{cause_line, word_is_plain}
use Rattle.tg_wire.proofs.write.put_denied_for.Goals as goal

pub returns : goal.returns
unfolding numbers_on_literals
returns c =
    let word = (command_form c.args.rule).word in
    let why = c.args.cause.now in
    let bytes = c.as_bytes.ensures.value ∙ c.command_form.ensures.word in
    let parts : line_in c.put_start.new.self ≡ codes "{\"cause\":\"" ++ (why ++ (codes "\",\"denied\":\"" ++ (word ++ codes "\"}\n"))) =
    rw (
      c.put_start.ensures,
      c.bytes_before-end-3.ensures.text,
      c.as_bytes-2.ensures.value,
      c.bytes_before-end-2.ensures.text,
      c.bytes_before-end.ensures.text,
      c.put_end-end.ensures.text,
      bytes,
    ) refl in
    parts ∙ cause_line why word c.requires.plain (word_is_plain c.args.rule)
