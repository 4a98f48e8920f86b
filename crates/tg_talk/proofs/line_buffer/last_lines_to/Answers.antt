use Rattle.std.proofs.Common.{Some, None, subst}
use Rattle.std.proofs.lemmas.List.{take_rest}
use Rattle.memchr.specs.Find.{IsLastByte, is_byte}
use Rattle.tg_talk.proofs.InputLinesLemmas.{ends_found, ends_known}
use Rattle.tg_talk.proofs.line_buffer.last_lines_to.Goals as goal

pub returns-in-Some : goal.returns-in-Some
returns-in-Some c =
    let last = c.in-Some.last in
    ends_found c.args.bytes.now c.args.from last (subst (λ l. IsLastByte (is_byte 10) l (Some last)) (take_rest c.args.bytes.now c.args.from) c.in-Some.ensures)

pub returns-in-None : goal.returns-in-None
returns-in-None c = ends_known c.args.bytes.now c.args.from c.args.before c.requires.known (subst (λ l. IsLastByte (is_byte 10) l None) (take_rest c.args.bytes.now c.args.from) c.in-None.ensures)
