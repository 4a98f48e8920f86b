-- what a line is, by its text
use Rattle.std.specs.Prelude.{ℕ, List, Result}
use Rattle.tg_wire.specs.Promise.Reading.{◌>>=◌, json_object}
use Rattle.tg_wire.specs.declared.fault.WireFault.{WireFault}
use Rattle.tg_wire.specs.declared.line.Line.{Line}
use Rattle.tg_wire.specs.Promise.Lines.{line_in}

-- what a line is, or its first fault, by its text, which is not too long
abbrev pub line_of_json : List ℕ → Result Line WireFault
line_of_json bytes = do
  d ← json_object bytes
  line_in d
