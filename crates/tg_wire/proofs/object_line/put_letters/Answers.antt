use Rattle.std.proofs.Common.{◌≡◌, ◌&&◌, true, ap, ◌∙◌}
use Rattle.std.proofs.Math.Bool.{and-true}
use Rattle.tg_rights.specs.Promise.Letters.{Letters, includes, read_alone, write_alone, take_alone}
use Rattle.tg_wire.proofs.ObjectLineLemmas.{letters_in_a_row}
use Rattle.tg_wire.proofs.object_line.put_letters.Goals as goal

has_read : (a : Letters) → includes a read_alone ≡ a.read
has_read a = and-true ((a.read && true) && true) ∙ and-true (a.read && true) ∙ and-true a.read

has_write : (a : Letters) → includes a write_alone ≡ a.write
has_write a = and-true (a.write && true) ∙ and-true a.write

has_take : (a : Letters) → includes a take_alone ≡ a.take
has_take a = and-true a.take

pub returns : goal.returns
returns c =
    let rights = c.args.rights in
    let read = c.contains.ensures ∙ ap (includes rights) c.read.ensures ∙ has_read rights in
    let write = c.contains-2.ensures ∙ ap (includes rights) c.write.ensures ∙ has_write rights in
    let take = c.contains-3.ensures ∙ ap (includes rights) c.take.ensures ∙ has_take rights in
    let grant : c.contains-4.result ≡ rights.grant = c.contains-4.ensures ∙ ap (includes rights) c.grant.ensures in
    rw (c.in_ok-push-2.ensures.items, c.in_ok-put_if-4.ensures, c.in_ok-put_if-3.ensures, c.in_ok-put_if-2.ensures, c.in_ok-put_if.ensures, c.in_ok-push.ensures.items, read, write, take, grant)
    (letters_in_a_row c.args.line.now.items rights)
