use Rattle.std.proofs.Common.{[], ap, ◌++◌, ◌∙◌, drop, slice_index_or, arith}
use Rattle.tg_rights.specs.Promise.Letters.{number}
use Rattle.tg_wire.specs.declared.before.TheConstants.{LETTERS}
use Rattle.tg_wire.proofs.BeforeLemmas.{placed, row_of}
use Rattle.tg_wire.proofs.before.letters_before.Goals as goal

pub returns-clause-text : goal.returns-clause-text
returns-clause-text c =
    let row = slice_index_or LETTERS (number c.args.rights) ([], 0) in
    let ends = row_of ([], 0) c.args.rights in
    let few = ends.1 in
    let room = c.args.room.now in
    rw (c.copy_from_slice.ensures.after, c.bits.ensures)
    (placed room row.0 c.args.end 8 row.1 ends.0 (omega arith) c.requires.room c.requires.end ∙ ap (λ l. l ++ drop c.args.end room) ends.2)
