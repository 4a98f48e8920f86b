use Rattle.std.proofs.Common.{◌≡◌, ◌++◌, drop}
use Rattle.std.specs.List.{flat_map}
use Rattle.tg_draw.specs.Promise.Picture.{seat_text}
use Rattle.tg_draw.proofs.dot.put_seats.Given as goal

-- the text so far and that of the seats that are left are those of all
abbrev pub invariant-loop-seat : goal.invariant-loop-seat
invariant-loop-seat l = l.out.items ++ flat_map seat_text (drop l.seat-index l.seats) ≡ l.fn.out.items ++ flat_map seat_text l.seats
