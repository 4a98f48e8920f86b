-- the line that was written last
use Rattle.std.specs.Prelude.{ℕ, List, drop, nat_lt, if◌then◌else◌}
use Rattle.tg_wire.specs.declared.last_line.LastLine.{LastLine}
use Rattle.tg_wire.specs.declared.last_line.TheConstants.{SHORT_LINE}

-- a short line stands at the end of the array, any other in the vector
abbrev pub line_in : LastLine → List ℕ
line_in l = if nat_lt l.start SHORT_LINE then drop l.start l.short else l.long.items
