use Rattle.std.proofs.Common.{◌≡◌, ◌++◌, drop}
use Rattle.std.specs.List.{flat_map}
use Rattle.tg_draw.specs.Promise.Picture.{mark_text}
use Rattle.tg_draw.proofs.dot.put_marks.Given as goal

-- the text so far and that of the seats that are left are those of all
abbrev pub invariant-loop-sitting : goal.invariant-loop-sitting
invariant-loop-sitting l = l.out.items ++ flat_map (mark_text l.serial) (drop l.sitting-index l.seats) ≡ l.fn.out.items ++ flat_map (mark_text l.serial) l.seats
