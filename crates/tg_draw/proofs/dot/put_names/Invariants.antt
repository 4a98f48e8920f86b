use Rattle.std.proofs.Common.{◌≡◌, ◌++◌, drop}
use Rattle.std.specs.List.{flat_map}
use Rattle.tg_draw.specs.Promise.Picture.{name_text}
use Rattle.tg_draw.proofs.dot.put_names.Given as goal

-- the text so far and that of the names that are left are those of all
abbrev pub invariant-loop-member : goal.invariant-loop-member
invariant-loop-member l = l.out.items ++ flat_map (name_text l.serial) (drop l.member-index l.names) ≡ l.fn.out.items ++ flat_map (name_text l.serial) l.names
