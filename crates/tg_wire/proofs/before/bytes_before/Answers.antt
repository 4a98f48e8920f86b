use Rattle.std.proofs.Common.{◌≡◌, ◌-◌, ap, ◌++◌, ◌∙◌, drop, length, refl, arith}
use Rattle.tg_wire.proofs.BeforeLemmas.{placed}
use Rattle.tg_wire.proofs.before.bytes_before.Goals as goal

pub returns-clause-text : goal.returns-clause-text
returns-clause-text c =
    let bytes = c.args.bytes.now in
    let room = c.args.room.now in
    let size = length bytes in
    let none : size - size ≡ 0 = omega arith in
    rw c.copy_from_slice.ensures.after
    (placed room bytes c.args.end size size refl (omega arith) c.requires.room c.requires.end ∙ ap (λ n. drop n bytes ++ drop c.args.end room) none)
